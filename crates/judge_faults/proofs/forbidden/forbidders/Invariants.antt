use Rattle.std.proofs.Common.{take}
use Rattle.sysmods.specs.Choices.{choice}
use Rattle.judge_faults.specs.Forbidders.{AreForbidders}
use Rattle.judge_faults.proofs.forbidden.forbidders.Given as goal

abbrev pub invariant-loop-entry : goal.invariant-loop-entry
invariant-loop-entry l =
    AreForbidders l.vers.global.now (choice l.vers) (take l.entry-index l.entry-items) l.forbidders
