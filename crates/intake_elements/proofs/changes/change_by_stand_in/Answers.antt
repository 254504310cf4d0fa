use Rattle.std.proofs.Common.{subst, sym, ◌∙◌, true≢false}
use Rattle.std.proofs.lemmas.Result.{IfOk-weaker}
use Rattle.std.proofs.lemmas.Option.{IfSome_then}
use Rattle.intake_elements.specs.Elements.{IsTarget}
use Rattle.intake_elements.proofs.changes.change_by_stand_in.Goals as goal

pub returns : goal.returns
returns c =
    let stated = c.args.element.now in
    IfOk-weaker c.stand_in_change.result _ _ (λ found is.
    IfSome_then found is (λ change made. record {
      target_is = subst (λ decide. IsTarget decide stated.word.items stated.name.items change.elem_type change.name)
          (sym c.if-not-options.false) made.0;
      action_is = made.1;
      lacks_nothing = c.requires.lacks_nothing c.if-not-options.false;
      text_is = λ e. absurd (true≢false (sym c.if-not-options.false ∙ e));
    })) c.stand_in_change.ensures
