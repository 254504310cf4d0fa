-- One more ++VER, with its number.
use Rattle.std.proofs.Common.{◌≡◌, ◌∙◌, ℕ, suc, Bool, List, [], ◌∷◌, ◌++◌, ◌+◌, length, map, refl, sym, ap, arith}
use Rattle.std.proofs.Common.{◌<◌, Option, None, Some, filter, take, get_or}
use Rattle.std.specs.Prelude.{◌==◌}
use Rattle.std.proofs.lemmas.List.{take_more}
use Rattle.std.proofs.lemmas.List.Elements.{filter-append}
use Rattle.std.proofs.lemmas.List.{length-map, map-append}
use Rattle.std.specs.Option.{option_map_or}
use Rattle.terms.specs.Types.{Ver, Sysmod}
use Rattle.report.specs.Facts.{Fact, VerFact, numbered_facts}

-- one more at the end, seen through a function
seen_push : {F G : Type 0} (view : F → G) (old new : List F) (f : F) (g : G) → new ≡ old ++ f ∷ [] → view f ≡ g
    → map view new ≡ map view old ++ g ∷ []
seen_push view old new f g made is =
    ap (map view) made ∙ map-append view old (f ∷ []) ∙ ap (λ v. map view old ++ v ∷ []) is

module _ (fit : Ver → Bool) (counts : ℕ) where
  numbered_length : (n : ℕ) (vs : List Ver) → length (numbered_facts fit counts n vs) ≡ length vs
  numbered_length n [] = refl
  numbered_length n (v ∷ vs) = ap suc (numbered_length (n + 1) vs)

  numbered_more : (n : ℕ) (vs : List Ver) (v : Ver)
      → numbered_facts fit counts n (vs ++ v ∷ [])
      ≡ numbered_facts fit counts n vs ++ VerFact (n + length vs) v.fmid (fit v) ((n + length vs) == counts) ∷ []
  numbered_more n [] v =
      let at : n ≡ n + 0 = omega arith in
      ap (λ k. VerFact k v.fmid (fit v) (k == counts) ∷ []) at
  numbered_more n (w ∷ vs) v =
      let at : (n + 1) + length vs ≡ n + length (w ∷ vs) = omega arith in
      ap (λ l. VerFact n w.fmid (fit w) (n == counts) ∷ l)
      (numbered_more (n + 1) vs v
      ∙ ap (λ k. numbered_facts fit counts (n + 1) vs ++ VerFact k v.fmid (fit v) (k == counts) ∷ []) at)

  -- the same of what is seen as them
  pub numbered_push : {F : Type 0} (view : F → Fact) (old new : List F) (f : F) (n : ℕ) (vs : List Ver) (v : Ver)
      → map view old ≡ numbered_facts fit counts 1 vs → new ≡ old ++ f ∷ [] → n ≡ length old + 1
      → view f ≡ VerFact n v.fmid (fit v) (n == counts) → map view new ≡ numbered_facts fit counts 1 (vs ++ v ∷ [])
  numbered_push view old new f n vs v before made n_is is =
      let len : length old ≡ length vs = sym (length-map old view) ∙ ap length before ∙ numbered_length 1 vs in
      let at : n ≡ 1 + length vs = omega (arith, len, n_is) in
      seen_push view old new f (VerFact n v.fmid (fit v) (n == counts)) made is
      ∙ ap (λ l. l ++ VerFact n v.fmid (fit v) (n == counts) ∷ []) before
      ∙ ap (λ k. numbered_facts fit counts 1 vs ++ VerFact k v.fmid (fit v) (k == counts) ∷ []) at
      ∙ sym (numbered_more 1 vs v)

-- the ++VERs that pass, of a SYSMOD that may be received
pub filtered_vers : (p : Ver → Bool) (o : Option Sysmod)
    → filter p (option_map_or (λ s. s.vers) o []) ≡ option_map_or (λ s. filter p s.vers) o []
filtered_vers p None = refl
filtered_vers p (Some s) = refl

-- what passes a test among those in front of a place, and the one there
pub passing_next : {X : Type 0} (p : X → Bool) (xs : List X) (i : ℕ) (x : X) → i < length xs → x ≡ get_or xs i x
    → filter p (take i xs) ++ filter p (x ∷ []) ≡ filter p (take (i + 1) xs)
passing_next p xs i x below at =
    sym (filter-append p (take i xs) (x ∷ []))
    ∙ ap (filter p) (sym (take_more xs i x below ∙ ap (λ v. take i xs ++ v ∷ []) (sym at)))
