use Rattle.std.proofs.Common.{subst, sym, ◌∙◌}
use Rattle.std.specs.Prelude.{All}
use Rattle.intake_elements.specs.Elements.{IsHarmless}
use Rattle.intake_elements.proofs.Lacking.{all_read}
use Rattle.intake_elements.proofs.elements.can_drop_all_operands.Goals as goal

pub returns : goal.returns
returns c = λ t.
    let inner = c.are_both-operands.ensures (c.are_both.ensures t).0 in
    all_read c.args.options.now.decide c.args.element.now
    (subst (All (IsHarmless c.args.options.now.decide)) c.as_slice.ensures.value (c.in_ok-dropped.ensures inner.0))
    (sym c.as_slice-faulty.ensures.value ∙ c.are_all_read.ensures inner.1)
