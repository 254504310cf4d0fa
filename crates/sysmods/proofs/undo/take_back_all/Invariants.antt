use Rattle.std.proofs.Common.{List, vec_len}
use Rattle.terms.specs.Types as terms
use Rattle.sysmods.specs.Undone.{UndoesAll}
use Rattle.sysmods.proofs.undo.take_back_all.Given as goal

abbrev pub invariant-loop-undo : goal.invariant-loop-undo
invariant-loop-undo l = (old : List terms.Hold) → UndoesAll old l.initial.from l.initial.log.items
    → UndoesAll old l.from l.log.items

abbrev pub decreases-loop-undo : goal.decreases-loop-undo
decreases-loop-undo l = vec_len l.log
