use Rattle.std.proofs.Common.{◌∙◌, subst, sym, ap}
use Rattle.std.proofs.lemmas.Result.{IfOk-weaker}
use Rattle.std.proofs.lemmas.Option.{IfSome_then}
use Rattle.intake_elements.specs.Elements.{is_update, IsChangeOf}
use Rattle.intake_elements.proofs.TextLemmas.{of_update}
use Rattle.intake_elements.proofs.elements.stated_change.Goals as goal

pub returns-then-is_update : goal.returns-then-is_update
returns-then-is_update c =
    let e = sym c.if-is_update.true ∙ c.is_update.ensures ∙ ap (is_update c.args.kind) c.as_slice-word.ensures.value in
    IfOk-weaker c.stated_update.result _ _ (λ found is.
    IfSome_then found is (λ change made. (
      subst (λ b. IsChangeOf c.args.target.elem_type c.args.target.name b change) e made,
      of_update c.args.element.now change.action made.2,
    ))) c.stated_update.ensures

pub returns : goal.returns
returns c =
    let e = sym c.if-is_update.false ∙ c.is_update.ensures ∙ ap (is_update c.args.kind) c.as_slice-word.ensures.value in
    IfOk-weaker c.stated_replacement.result _ _ (λ found is.
    IfSome_then found is (λ change made.
    (subst (λ b. IsChangeOf c.args.target.elem_type c.args.target.name b change) e made.0, made.1)))
    c.stated_replacement.ensures
