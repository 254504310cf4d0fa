use Rattle.std.proofs.Common.{take}
use Rattle.sysmods.specs.Choices.{choice}
use Rattle.stream.specs.Gaining.{Gains, OneOf}
use Rattle.stream.specs.Lost.{IsLackOf}
use Rattle.stream.proofs.requisites.append_lost_requisites.Given as goal

abbrev pub invariant-loop-other : goal.invariant-loop-other
invariant-loop-other l =
    Gains (OneOf (take l.other-index l.superseded) (IsLackOf (choice l.suspects.vers.now) l.id))
    l.initial.found.items l.found.items
