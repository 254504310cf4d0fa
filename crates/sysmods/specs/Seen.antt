-- How a search adds to the ids that it has seen.
use Rattle.std.specs.Prelude.{◌≡◌, ◌≤◌, ◌+◌, ◌↔◌, ℕ, List, ◌++◌, length, take, Contains}
use Rattle.terms.specs.Types.{Id}
use Rattle.terms.specs.Over.{Reaches}

-- The new ids are the old ones, followed by some of those that are named, so that all of these are included.
pub record AddsAll (old named new : List Id) : Type 0 where
  pub added : List Id
  pub kept : new ≡ old ++ added
  pub were_named : (z : Id) → Contains added z → Contains named z
  pub has : (z : Id) → Contains named z → Contains new z

-- A search has seen these ids and gone through the first n of them. They include those with which it begins and those
-- that the ones gone through name. All of them belong to the search.
pub record IsGoing (next : Id → List Id) (Begins Belongs : Id → Type 0) (seen : List Id) (n : ℕ) : Type 0 where
  pub within : n ≤ length seen
  pub sound : (z : Id) → Contains seen z → Belongs z
  pub first : (z : Id) → Begins z → Contains seen z
  pub closed : (y z : Id) → Contains (take n seen) y → Contains (next y) z → Contains seen z

-- x's search
abbrev pub IsSearch : (Id → List Id) → Id → List Id → ℕ → Type 0
IsSearch next x seen n = IsGoing next (Contains (next x)) (Reaches next x) seen n

-- a search goes through one more of the ids that it has seen
abbrev pub GoesOn : (Id → List Id) → ℕ → List Id → List Id → Type 0
GoesOn next n old new = (x : Id) → IsSearch next x old n → IsSearch next x new (n + 1)

-- `back` gives for each id the ids that name it
abbrev pub IsTurned : (Id → List Id) → (Id → List Id) → Type 0
IsTurned next back = (y z : Id) → Contains (next y) z ↔ Contains (back z) y
