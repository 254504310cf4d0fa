use Rattle.std.proofs.Common.{take}
use Rattle.terms.specs.Beside.{Beside}
use Rattle.sysmods.specs.Choices.{choice}
use Rattle.why_facts.specs.Makers.{IsMaker}
use Rattle.why_facts.proofs.element_facts.element_in_zone.Given as goal

abbrev pub invariant-loop-umid : goal.invariant-loop-umid
invariant-loop-umid l =
    Beside (λ n z m. IsMaker (choice l.asking.scope.vers.now) l.asking.id z m) (take l.umid-index l.umid-items)
    l.umids.items
