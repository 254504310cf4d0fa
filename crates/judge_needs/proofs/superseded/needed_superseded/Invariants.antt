use Rattle.std.proofs.Common.{take}
use Rattle.sysmods.specs.Choices.{choice}
use Rattle.judge_needs.proofs.Closing.{AddsAll}
use Rattle.judge_needs.proofs.superseded.needed_superseded.Given as goal

abbrev pub invariant-loop-other : goal.invariant-loop-other
invariant-loop-other l =
    AddsAll (choice l.vers) l.needed (take l.other-index l.other-items) l.initial.found.items l.found.items
