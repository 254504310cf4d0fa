use Rattle.std.proofs.Common.{take}
use Rattle.sysmods.specs.Graphs.{Marks}
use Rattle.sysmods.proofs.descent.mark_numbers.Given as goal

abbrev pub invariant-loop-number : goal.invariant-loop-number
invariant-loop-number l = Marks (take l.number-index l.numbers) l.fn.marks.items l.marks.items
