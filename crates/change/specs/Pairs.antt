-- Pairs of ids, grouped by their first ids.
use Rattle.std.specs.Prelude.{List, Contains}
use Rattle.std.specs.Ordering.{nat_cmp}
use Rattle.std.specs.Cmp.Lexicographic.{slice_cmp}
use Rattle.sorted.specs.MultiMap.{MultiMap, listed, Holds}
use Rattle.terms.specs.Types.{Id}

-- the ids with which an id is paired
abbrev pub others_of : MultiMap Id Id → Id → List Id
others_of = listed (slice_cmp nat_cmp)

-- the groups have these pairs
abbrev pub AreGrouped : List (Id × Id) → MultiMap Id Id → Type 0
AreGrouped pairs groups = Holds (slice_cmp nat_cmp) groups (λ x z. Contains {X = Id × Id} pairs (x, z))
