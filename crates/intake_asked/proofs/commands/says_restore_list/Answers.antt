use Rattle.std.proofs.Common.{subst, sym, refl, ◌∙◌}
use Rattle.std.proofs.lemmas.Result.{IfOk-weaker}
use Rattle.terms.specs.Types.{RestoreSelect, RestoreGroup}
use Rattle.fields.specs.Choices.{restore_list_of}
use Rattle.intake_asked.specs.Said.{SaysRestored}
use Rattle.intake_asked.proofs.Alike.{lent, turned}
use Rattle.intake_asked.proofs.commands.says_restore_list.Goals as goal

pub returns-in-Select : goal.returns-in-Select
returns-in-Select c =
    let ops = c.args.operands.now in
    IfOk-weaker c.says_single_list.result _ _
    (λ says are t. subst (λ l. SaysRestored ops (restore_list_of l)) (sym c.in-Select.is)
    (subst (λ l. SaysRestored ops (RestoreSelect l)) c.as_slice.ensures.items (
      turned refl (lent c.deref.ensures.value c.in_ok-selected.ensures) (are t).0,
      sym (lent c.deref-in-Select.ensures.value c.in_ok-grouped.ensures) ∙ (are t).1,
    ))) c.says_single_list.ensures

pub returns : goal.returns
returns c =
    let ops = c.args.operands.now in
    IfOk-weaker c.says_single_list-in-Group.result _ _
    (λ says are t. subst (λ l. SaysRestored ops (restore_list_of l)) (sym c.in-Group.is)
    (subst (λ l. SaysRestored ops (RestoreGroup l)) c.as_slice-in-Group.ensures.items (
      turned refl (lent c.deref-in-Group.ensures.value c.in_ok-grouped.ensures) (are t).0,
      sym (lent c.deref-in-Group-2.ensures.value c.in_ok-selected.ensures) ∙ (are t).1,
    ))) c.says_single_list-in-Group.ensures
