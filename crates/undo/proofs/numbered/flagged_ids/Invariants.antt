use Rattle.undo.specs.ByNumbers.{AreFlagged}
use Rattle.undo.proofs.numbered.flagged_ids.Given as goal

abbrev pub invariant-loop-i : goal.invariant-loop-i
invariant-loop-i l = AreFlagged l.table l.flags l.i l.found.items
