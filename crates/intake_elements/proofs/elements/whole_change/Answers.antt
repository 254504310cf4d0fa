use Rattle.std.proofs.lemmas.Result.{IfOk-weaker}
use Rattle.std.proofs.lemmas.Option.{IfSome_then}
use Rattle.intake_elements.proofs.Making.{whole}
use Rattle.intake_elements.proofs.elements.whole_change.Goals as goal

pub returns : goal.returns
returns c =
    IfOk-weaker c.stated_change.result _ _ (λ found is.
    IfSome_then found is (λ change stated.
    whole c.args.options.now.decide c.args.kind c.args.element.now c.args.target.elem_type c.args.target.name change
    c.requires.known c.requires.named (c.in_ok-can_drop_all_operands.ensures c.if-not-branch.false) stated.0 stated.1))
    c.stated_change.ensures
