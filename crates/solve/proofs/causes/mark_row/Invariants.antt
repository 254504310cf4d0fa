use Rattle.std.proofs.Common.{take}
use Rattle.solve.specs.Marks.{IsMarked}
use Rattle.solve.proofs.causes.mark_row.Given as goal

abbrev pub invariant-loop-x : goal.invariant-loop-x
invariant-loop-x l = IsMarked (take l.x-index l.row) l.initial.marks l.marks l.initial.found.items l.found.items
