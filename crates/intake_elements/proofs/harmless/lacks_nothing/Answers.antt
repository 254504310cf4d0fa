use Rattle.std.proofs.Common.{true, refl}
use Rattle.intake_elements.proofs.Lacking.{modules_read}
use Rattle.intake_elements.proofs.harmless.lacks_nothing.Goals as goal

pub returns : goal.returns
returns c = λ t.
    let both = c.are_both.ensures t in
    modules_read true c.args.element.now refl (c.has_no_harmful_operand.ensures both.0)
    (c.has_no_module_fault.ensures both.1)
