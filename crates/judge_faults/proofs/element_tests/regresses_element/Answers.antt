use Rattle.std.proofs.Common.{sym, ◌∙◌, ◌∷◌, true≢false, IsTrue}
use Rattle.std.specs.Prelude.{◌↔◌, Any}
use Rattle.std.proofs.lemmas.Result.{IfOk-weaker}
use Rattle.terms.specs.Over.{IsOver}
use Rattle.sysmods.specs.Choices.{choice}
use Rattle.judge_faults.proofs.Collapsed.{lower_first, lower_rest}
use Rattle.judge_faults.proofs.element_tests.regresses_element.Goals as goal

pub returns-then-not-branch-clause-lower : goal.returns-then-not-branch-clause-lower
returns-then-not-branch-clause-lower c =
    rw (← c.element.view_is)
    (lower_first (choice c.args.overs.now) c.args.id c.element.inside.rmid c.element.inside.umids
    (λ over. true≢false (sym (c.in_ok-over.ensures.over.1 over) ∙ search)))

pub returns-clause-lower : goal.returns-clause-lower
returns-clause-lower c =
    rw (← c.element.view_is)
    (IfOk-weaker c.is_not_over_all.result _
    (λ lower. IsTrue lower ↔ Any (λ z. ¬ IsOver (choice c.args.overs.now) c.args.id z)
    (c.element.inside.rmid ∷ c.element.inside.umids))
    (λ lower h. lower_rest (choice c.args.overs.now) c.args.id c.element.inside.rmid c.element.inside.umids lower
    (c.in_ok-over.ensures.over.0 search) h)
    (rw (c.as_slice.ensures.items, c.in_ok-over.ensures.same) at c.is_not_over_all.ensures.lower))
