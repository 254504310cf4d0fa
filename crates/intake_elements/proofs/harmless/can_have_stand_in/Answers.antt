use Rattle.std.proofs.Common.{subst}
use Rattle.std.specs.Prelude.{All}
use Rattle.intake_elements.specs.Elements.{IsHarmless}
use Rattle.intake_elements.proofs.Lacking.{modules_read}
use Rattle.intake_elements.proofs.harmless.can_have_stand_in.Goals as goal

pub returns : goal.returns
returns c = λ t.
    let both = c.are_both.ensures t in
    modules_read c.args.options.now.decide c.args.element.now c.requires
    (subst (All (IsHarmless c.args.options.now.decide)) c.as_slice.ensures.value (c.in_ok-can_lack.ensures both.0))
    (c.has_no_module_fault.ensures both.1)
