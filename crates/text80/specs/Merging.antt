use Rattle.std.specs.Prelude.{◌≡◌, ◌≢◌, ◌<◌, ◌≤◌, ◌||◌, ℕ, List, ◌∷◌, ◌++◌, All, IfSome, slice_get, nat_lt}
use Rattle.std.specs.List.Sorted.{IsNonDecreasingBy}
use Rattle.terms.specs.Types.{Lines}
use Rattle.terms.specs.Texts.{number_of}
use Rattle.text80.specs.declared.control.Range.{Range}
use Rattle.text80.specs.Ranges.{covers}

-- The lines are cut before the first one whose number is not below this one.
pub record IsSplitBelow (number : ℕ) (lines front back : Lines) : Type 0 where
  pub lines_are : lines ≡ front ++ back
  pub below : All (λ line. number_of line < number) front
  pub ends : IfSome (slice_get back 0) (λ line. number ≤ number_of line)

-- A record of the number comes first.
pub record StandsFirst (number : ℕ) (lines : Lines) (line : List ℕ) (more : Lines) : Type 0 where
  pub lines_are : lines ≡ line ∷ more
  pub number_is : number_of line ≡ number

-- The first record, if there is one, has another number, and none is taken.
pub record StandsNowhere (number : ℕ) (lines more : Lines) : Type 0 where
  pub lines_are : more ≡ lines
  pub other : IfSome (slice_get lines 0) (λ line. number_of line ≢ number)

-- From a number on, the ranges contain exactly the numbers below `reach` and those in a range that is left.
pub record IsSwept (all : List Range) (from : ℕ) (left : List Range) (reach : ℕ) : Type 0 where
  pub rising : IsNonDecreasingBy (λ r. r.low) left
  pub covered : (n : ℕ) → from ≤ n → covers all n ≡ (nat_lt n reach || covers left n)
