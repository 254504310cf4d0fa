use Rattle.std.proofs.Common.{take}
use Rattle.std.specs.Prelude.{AllPairs}
use Rattle.store_schema.specs.Forms.{AreVersApart}
use Rattle.store_sysmod_loads.proofs.building.each_may_follow_earlier.Given as goal

-- the ++VERs so far are apart
abbrev pub invariant-loop-i : goal.invariant-loop-i
invariant-loop-i l = AllPairs (AreVersApart l.kind) (take l.i l.vers)
