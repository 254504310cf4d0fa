use Rattle.std.proofs.Common.{take}
use Rattle.text80.proofs.Reading.{IsRead}
use Rattle.text80.proofs.numbered.Numbered.read.Given as goal

abbrev pub invariant-loop-i : goal.invariant-loop-i
invariant-loop-i l = IsRead (take l.i l.line-items) l.least
