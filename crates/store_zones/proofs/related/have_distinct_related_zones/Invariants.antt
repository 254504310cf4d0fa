use Rattle.std.proofs.Common.{take}
use Rattle.std.specs.Prelude.{AllPairs}
use Rattle.store_zones.specs.Related.{HeadsAreApart}
use Rattle.store_zones.proofs.related.have_distinct_related_zones.Given as goal

-- the heads so far are apart
abbrev pub invariant-loop-i : goal.invariant-loop-i
invariant-loop-i l = AllPairs HeadsAreApart (take l.i l.heads)
