use Rattle.std.proofs.Common.{take}
use Rattle.stream.specs.Gaining.{Gains, OneOf}
use Rattle.stream.specs.Lost.{IsLostStatement}
use Rattle.stream.proofs.elements.append_losses.Given as goal

abbrev pub invariant-loop-change : goal.invariant-loop-change
invariant-loop-change l =
    Gains (OneOf (take l.change-index l.changes) (IsLostStatement l.global l.superseding l.superseded))
    l.initial.found.items l.found.items
