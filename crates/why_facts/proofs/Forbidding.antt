-- Only functions forbid anything.
use Rattle.std.proofs.Common.{◌≡◌, ◌∙◌, Bool, true, false, List, [], ◌∷◌, filter, refl, sym, ap, cond, true≢false}
use Rattle.std.proofs.lemmas.Bool.{and_parts}
use Rattle.terms.specs.Types.{Id}
use Rattle.terms.specs.Lookups.{is_in, is_function}
use Rattle.terms.specs.Choice.{npre_of}
use Rattle.terms.specs.Tests.{Setting}
use Rattle.report.specs.Facts.{forbids}

-- of those that pass p, it is enough to ask for f those that pass q, if all that pass f do
module _ {X : Type 0} (f p q : X → Bool) (only : (y : X) → f y ≡ true → q y ≡ true) where
  asked_less : (ys : List X) → filter f (filter p (filter q ys)) ≡ filter f (filter p ys)
  asked_less [] = refl
  asked_less (y ∷ ys) = by (q y) (p y) (f y) refl refl refl (asked_less ys)
    where
      by : (a b c : Bool) → q y ≡ a → p y ≡ b → f y ≡ c
          → filter f (filter p (filter q ys)) ≡ filter f (filter p ys)
          → filter f (filter p (cond a (y ∷ filter q ys) (filter q ys)))
          ≡ filter f (cond b (y ∷ filter p ys) (filter p ys))
      by true true c eq ep ef rest = rw ep (ap (λ l. cond (f y) (y ∷ l) l) rest)
      by true false c eq ep ef rest = rw ep rest
      by false true true eq ep ef rest = absurd (true≢false (sym (only y ef) ∙ eq))
      by false true false eq ep ef rest = rw ef rest
      by false false c eq ep ef rest = rest

pub functions_forbid : (s : Setting) (x : Id) (p : Id → Bool) (ids : List Id)
    → filter (forbids s x) (filter p (filter (is_function s.global) ids)) ≡ filter (forbids s x) (filter p ids)
functions_forbid s x p = asked_less (forbids s x) p (is_function s.global)
    (λ y passes. (and_parts (is_function s.global y) (is_in (npre_of s.choice y) x) passes).0)
