use Rattle.std.proofs.Common.{take}
use Rattle.text80.proofs.Splitting.{IsSplit}
use Rattle.text80.proofs.update.ranges_of.Given as goal

abbrev pub invariant-loop-i : goal.invariant-loop-i
invariant-loop-i l = IsSplit (take l.i l.lines) l.ranges.items l.least
