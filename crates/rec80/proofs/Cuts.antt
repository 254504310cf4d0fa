-- Lists cut behind the longest front whose elements pass a test.
use Rattle.std.proofs.Common.{◌≡◌, Bool, false, List, [], ◌∷◌, length, drop}
use Rattle.std.proofs.Common.{sym, subst, inl, inr, drop-cons}
use Rattle.std.specs.List.{prefix_len}
use Rattle.std.proofs.lemmas.List.{drop_all}
use Rattle.std.proofs.lemmas.List.Sums.{prefix_len_stops}
use Rattle.std.proofs.lemmas.Bool.{cases_lt}

-- the first element, if there is one, fails the test
abbrev pub BeginsOutside : {X : Type 0} → (X → Bool) → List X → Type 0
BeginsOutside test [] = Unit {0}
BeginsOutside test (x ∷ xs) = test x ≡ false

-- the element is a default, and plays no part
pub back_fails : {X : Type 0} (test : X → Bool) (xs : List X) (x : X)
    → BeginsOutside test (drop (prefix_len test xs) xs)
back_fails test xs x =
    elim (cases_lt (prefix_len test xs) (length xs)) [
      | inl more ↦ subst (BeginsOutside test) (sym (drop-cons xs (prefix_len test xs) x more))
          (prefix_len_stops test xs x more)
      | inr none ↦ subst (BeginsOutside test) (sym (drop_all (prefix_len test xs) xs none)) tt
    ]
