use Rattle.std.proofs.Common.{inl, inr, ◌∙◌, sym}
use Rattle.std.proofs.lemmas.Result.{IfOk-weaker}
use Rattle.smpe_lint.proofs.answer.lint_files.Goals as goal

pub returns-in-Ok-clause-clean : goal.returns-in-Ok-clause-clean
returns-in-Ok-clause-clean c =
    let carried = c.in-Ok.carried in
    IfOk-weaker c.answer.result _ _ (λ a clean status. record {
      files = carried.files.items;
      each_file = c.in-Ok.ensures.each;
      items = carried.narrowed.items.items;
      hold_items = carried.narrowed.hold_items.items;
      carries = c.in-Ok.ensures.carries;
      each_sysmod = (clean status).0;
      clean = (clean status).1;
    }) c.answer.ensures.clean

pub returns-in-Ok-clause-known : goal.returns-in-Ok-clause-known
returns-in-Ok-clause-known c =
    IfOk-weaker c.answer.result _ _ (λ a known. elim known [ inl clean ↦ inl clean | inr broken ↦ inr (inl broken) ])
    c.answer.ensures.known

pub returns-clause-clean : goal.returns-clause-clean
returns-clause-clean c =
    IfOk-weaker c.refusal.result _ _ (λ a refused status. elim status [
      | inl none ↦ absurd (cc (sym refused ∙ none))
      | inr some ↦ absurd (cc (sym refused ∙ some))
    ]) c.refusal.ensures

pub returns-clause-known : goal.returns-clause-known
returns-clause-known c = IfOk-weaker c.refusal.result _ _ (λ a refused. inr (inr refused)) c.refusal.ensures
