use Rattle.std.proofs.Common.{◌≡◌, drop}
use Rattle.sysmods.specs.Choices.{choice}
use Rattle.smpe_verify.specs.FirstBreach.{first_of, element_breach}
use Rattle.smpe_verify.proofs.closed.first_element_breach.Given as goal

abbrev pub invariant-loop-element : goal.invariant-loop-element
invariant-loop-element l =
    let breach = element_breach l.vers.global.now (choice l.vers) l.zone in
    first_of breach (drop l.element-index l.element-items) ≡ first_of breach l.element-items
