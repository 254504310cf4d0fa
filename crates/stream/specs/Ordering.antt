-- An order in which each SYSMOD of the stream comes after all that it names.
use Rattle.std.specs.Prelude.{◌≡◌, ◌≢◌, ◌+◌, ◌*◌, ◌&&◌, Bool, not, is_some, List, ◌++◌, length, AllPairs, Contains}
use Rattle.terms.specs.Types.{Id}
use Rattle.terms.specs.Choice.{Choice}
use Rattle.terms.specs.Over.{names, IsOver}
use Rattle.terms.specs.Lookups.{is_in}
use Rattle.terms.specs.Stream.{IsInStream}

-- whether it is in the stream, and not among these
abbrev pub is_open : Choice → List Id → Id → Bool
is_open c placed x = not (is_in placed x) && is_some (c x)

-- These are SYSMODs of the stream, none twice, with all those of the stream that they name. None is over a later one.
pub record IsOrder (c : Choice) (placed : List Id) : Type 0 where
  pub stream : (x : Id) → Contains placed x → IsInStream c x
  pub apart : AllPairs (λ x y. x ≢ y) placed
  pub closed : (x z : Id) → Contains placed x → Contains (names c x) z → IsInStream c z → Contains placed z
  pub order : AllPairs (λ x y. ¬ IsOver c x y) placed

-- The ids of the path are SYSMODs of the stream without a place, and each is over those after it.
pub record IsPlacing (c : Choice) (placed path : List Id) : Type 0 where
  pub order : IsOrder c placed
  pub stream : (x : Id) → Contains path x → IsInStream c x
  pub unplaced : (x : Id) → Contains path x → ¬ Contains placed x
  pub descends : AllPairs (IsOver c) path

-- One id more is on the path, or the last one of the path has its place.
pub record GoesOn (c : Choice) (placed path placed_after path_after : List Id) : Type 0 where
  pub placing : IsPlacing c placed_after path_after
  pub one_more : 2 * length placed_after + length path_after ≡ 2 * length placed + length path + 1
  pub kept : (x : Id) → Contains placed x → Contains placed_after x
  pub all : (x : Id) → Contains (placed ++ path) x → Contains (placed_after ++ path_after) x
