-- Which candidates serve a need, by their places.
use Rattle.std.specs.Prelude.{◌≡◌, ◌↔◌, ◌<◌, ◌⊎◌, ℕ, Bool, List, Some, Contains, slice_get}
use Rattle.std.specs.Ordering.{nat_cmp, ordering_then}
use Rattle.std.specs.Cmp.Lexicographic.{slice_cmp}
use Rattle.std.specs.BTreeMap.Range.{range_contains}
use Rattle.std.specs.declared.ops.Bound.TheVariants.{Included, Excluded}
use Rattle.terms.specs.declared.codes.NeedKind.{NeedKind}
use Rattle.terms.specs.Types.{Id}
use Rattle.judge_system.specs.Said.{Serves}

-- y is z or supersedes it
abbrev pub StandsFor : List (Id × Id) → Id → Id → Type 0
StandsFor superseded y z = (y ≡ z) ⊎ Contains superseded (y, z)

-- the pairs are ids with their places, before a place
abbrev pub AreOwn : List Id → ℕ → List (Id × ℕ) → Type 0
AreOwn ids end pairs = (z : Id) (n : ℕ) → Contains pairs (z, n) ↔ ((n < end) × (slice_get ids n ≡ Some z))

-- what candidates supersede is added, each id with the place of the candidate
abbrev pub AddsSuperseded : List Id → List (Id × Id) → List (Id × ℕ) → List (Id × ℕ) → Type 0
AddsSuperseded ids superseded old new =
    (z : Id) (n : ℕ) → Contains new (z, n)
    ↔ (Contains old (z, n) ⊎ ((y : Id) × Contains superseded (y, z) × (slice_get ids n ≡ Some y)))

-- the candidate at a place stands for the id
abbrev pub IsServed : List Id → List (Id × Id) → Id → ℕ → Type 0
IsServed ids superseded z n = (y : Id) × (slice_get ids n ≡ Some y) × StandsFor superseded y z

-- the pairs have each id with the places of the candidates that stand for it
abbrev pub AreServed : List Id → List (Id × Id) → List (Id × ℕ) → Type 0
AreServed ids superseded pairs = (z : Id) (n : ℕ) → Contains pairs (z, n) ↔ IsServed ids superseded z n

-- whether the pair is of this id, and its place comes before another
abbrev pub is_between : Id → ℕ → Id × ℕ → Bool
is_between z end p = range_contains (λ a b. ordering_then (slice_cmp nat_cmp a.0 b.0) (nat_cmp a.1 b.1))
    (Included (z, 0)) (Excluded (z, end)) p

-- the numbers are the places of the id
abbrev pub AreOwnPlaces : List Id → Id → List ℕ → Type 0
AreOwnPlaces ids z any = (n : ℕ) (y : Id) → slice_get ids n ≡ Some y → Contains any n ↔ (y ≡ z)

-- the numbers are the places of those that serve the need
abbrev pub ArePlaces : List Id → List (Id × Id) → NeedKind → Id → List ℕ → Type 0
ArePlaces ids superseded kind z any =
    (n : ℕ) (y : Id) → slice_get ids n ≡ Some y → Contains any n ↔ Serves superseded kind y z

-- this holds whatever the pairs were made of
abbrev pub IsServedIn : List Id → NeedKind → Id → List (Id × ℕ) → List ℕ → Type 0
IsServedIn ids kind z pairs any =
    (superseded : List (Id × Id)) → AreServed ids superseded pairs → ArePlaces ids superseded kind z any
