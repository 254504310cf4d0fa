use Rattle.std.proofs.Common.{[], take}
use Rattle.terms.specs.Choice.{sup_of}
use Rattle.sysmods.specs.Choices.{choice}
use Rattle.stream.specs.Gaining.{Gains, OneOf}
use Rattle.stream.specs.Lost.{IsLossOf}
use Rattle.stream.proofs.linting.lost_elements.Given as goal

abbrev pub invariant-loop-id : goal.invariant-loop-id
invariant-loop-id l = Gains (OneOf (take l.id-index l.ids)
    (λ x. OneOf (sup_of (choice l.suspects.vers.now) x) (IsLossOf l.suspects.vers.now.global.now (choice l.suspects.vers.now) x))) [] l.found.items
