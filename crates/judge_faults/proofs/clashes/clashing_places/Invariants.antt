use Rattle.sysmods.specs.Choices.{choice}
use Rattle.judge_faults.specs.Sharing.{Marks}
use Rattle.judge_faults.proofs.Naming.{IsByNpreBefore}
use Rattle.judge_faults.proofs.clashes.clashing_places.Given as goal

abbrev pub invariant-loop-i : goal.invariant-loop-i
invariant-loop-i l = Marks (IsByNpreBefore (choice l.vers) l.ids l.faults l.i) l.initial.marked.keys l.marked.keys
