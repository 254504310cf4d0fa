-- The first item that passes a test, by its place.
use Rattle.std.proofs.Common.{◌≡◌, ◌<◌, ℕ, zero, suc, Bool, true, false, List, [], ◌∷◌, length, get_or, refl, arith}
use Rattle.std.proofs.Common.{Some, None, find, sym, ◌∙◌, ap, cond}
use Rattle.std.specs.Prelude.{position}
use Rattle.std.specs.List.{position_or_len}
use Rattle.std.specs.Prelude.{nat_lt}
use Rattle.std.proofs.lemmas.Bool.{ltb-false}
use Rattle.std.proofs.lemmas.Option.{none-some, slice_get_past}
use Rattle.std.proofs.lemmas.List.Folds.{find_at}
use Rattle.std.proofs.lemmas.List.Quantifiers.{position-Some}

at_place : {X : Type 0} (p : X → Bool) (xs : List X) (i : ℕ) (d : X) → i < length xs → p (get_or xs i d) ≡ true
    → ((k : ℕ) → k < i → p (get_or xs k d) ≡ false)
    → find p xs ≡ Some (get_or xs i d)
at_place p [] i d below here before = absurd (omega (arith, below))
at_place p (x ∷ xs) zero d below here before = rw here refl
at_place p (x ∷ xs) (suc i) d below here before =
    rw (before 0 (omega arith)) (at_place p xs i d (omega (arith, below)) here
    (λ k h. before (suc k) (omega (arith, h))))

pub find_position : {X : Type 0} (p : X → Bool) (xs : List X) (i : ℕ) (d : X) → position p xs ≡ Some i
    → find p xs ≡ Some (get_or xs i d)
find_position p xs i d e =
    let first = position-Some p xs i d e in
    at_place p xs i d first.0 first.1 first.2

-- where none passes none is found
pub find_no_position : {X : Type 0} (p : X → Bool) (xs : List X) → position p xs ≡ None → find p xs ≡ None
find_no_position p xs e = by (nat_lt (position_or_len p xs) (length xs)) refl
  where
    by : (b : Bool) → nat_lt (position_or_len p xs) (length xs) ≡ b → find p xs ≡ None
    by true h = absurd (none-some (position_or_len p xs) (sym e
        ∙ ap (λ b. cond b (Some (position_or_len p xs)) None) h))
    by false h = find_at p xs ∙ slice_get_past xs (position_or_len p xs)
        (ltb-false (position_or_len p xs) (length xs) h)
