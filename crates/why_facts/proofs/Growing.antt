-- Lists that grow part by part.
use Rattle.std.proofs.Common.{◌≡◌, ◌∙◌, ◌<◌, ◌+◌, ℕ, Bool, true, false, List, [], ◌∷◌, ◌++◌, take, filter, length}
use Rattle.std.proofs.Common.{get_or, refl, sym, ap, cond, append-nil}
use Rattle.std.specs.List.{flat_map}
use Rattle.std.proofs.lemmas.List.Concat.{flat_map-append}
use Rattle.terms.proofs.Searches.{filter_next}
use Rattle.judge_needs.proofs.Growing.{grown}

-- what those hold together that pass, at one item more
pub kept_more : {X Y : Type 0} (p : X → Bool) (f : X → List Y) (xs : List X) (i : ℕ) (x : X) → i < length xs
    → x ≡ get_or xs i x
    → flat_map f (filter p (take (i + 1) xs)) ≡ flat_map f (filter p (take i xs)) ++ cond (p x) (f x) []
kept_more {X} {Y} p f xs i x below at =
    ap (flat_map f) (filter_next p xs i x below at)
    ∙ flat_map-append f (filter p (take i xs)) (cond (p x) (x ∷ []) [])
    ∙ ap (λ l. flat_map f (filter p (take i xs)) ++ l) (one (p x))
  where
    one : (b : Bool) → flat_map f (cond b (x ∷ []) []) ≡ cond b (f x) []
    one true = append-nil (f x)
    one false = refl

-- what grew by a part more, or as nothing more passed did not
module _ {X : Type 0} (base part next whole old new : List X) (b : Bool) (was : old ≡ base ++ part)
    (both : whole ≡ part ++ cond b next []) where
  pub grown_then : b ≡ true → new ≡ old ++ next → new ≡ base ++ whole
  grown_then passes is =
      grown base old part (cond b next []) new whole was (is ∙ ap (λ b. old ++ cond b next []) (sym passes)) both

  pub grown_else : b ≡ false → new ≡ old → new ≡ base ++ whole
  grown_else fails is =
      grown base old part (cond b next []) new whole was
      (is ∙ sym (append-nil old) ∙ ap (λ b. old ++ cond b next []) (sym fails)) both

-- five parts, one behind the other, each as it is to be
pub five_parts : {X : Type 0} {none fa fb fc fd fe a b c d e pa pb pc pd pe : List X} → none ≡ []
    → fa ≡ none ++ a → a ≡ pa → fb ≡ fa ++ b → b ≡ pb → fc ≡ fb ++ c → c ≡ pc → fd ≡ fc ++ d → d ≡ pd
    → fe ≡ fd ++ e → e ≡ pe → fe ≡ pa ++ pb ++ pc ++ pd ++ pe
five_parts {X} {none} {fa} {fb} {fc} {fd} {fe} {a} {b} {c} {d} {e} {pa} {pb} {pc} {pd} {pe}
    en ea sa eb sb ec sc ed sd ee se =
    let first : fa ≡ pa = ea ∙ ap (λ l. l ++ a) en ∙ sa in
    let second : fb ≡ pa ++ pb = eb ∙ ap (λ l. l ++ b) first ∙ ap (λ l. pa ++ l) sb in
    let third : fc ≡ pa ++ pb ++ pc = ec ∙ ap (λ l. l ++ c) second ∙ ap (λ l. pa ++ pb ++ l) sc in
    let fourth : fd ≡ pa ++ pb ++ pc ++ pd = ed ∙ ap (λ l. l ++ d) third ∙ ap (λ l. pa ++ pb ++ pc ++ l) sd in
    ee ∙ ap (λ l. l ++ e) fourth ∙ ap (λ l. pa ++ pb ++ pc ++ pd ++ l) se
