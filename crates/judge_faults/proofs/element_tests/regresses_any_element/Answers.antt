use Rattle.std.proofs.Common.{◌≤◌, length, arith, subst, sym, true≢false, refl, ◌∙◌}
use Rattle.sysmods.specs.Choices.{choice}
use Rattle.judge_faults.specs.Own.{IsLowerAt}
use Rattle.zones.specs.Gone.{left_of}
use Rattle.terms.proofs.BesideLists.{all_next, all_through}
use Rattle.judge_faults.proofs.element_tests.regresses_any_element.Goals as goal

pub loop-change-preserved : goal.loop-change-preserved
loop-change-preserved c = record {
  same = c.in_ok-regresses_changed_element.ensures.same ∙ c.loop-change.invariant.same;
  not_lower = all_next (λ h. ¬ IsLowerAt (choice c.args.overs.now) (left_of c.args.view.now) c.args.id h)
      c.args.changes.now c.loop-change.change-index c.change-item.result
      (omega arith) c.change-item.is (λ lower. true≢false
      (sym ((rw c.loop-change.invariant.same at c.in_ok-regresses_changed_element.ensures.lower).1 lower) ∙ search))
      c.loop-change.invariant.not_lower;
}

pub returns-clause-lower : goal.returns-clause-lower
returns-clause-lower c =
    let whole : length c.args.changes.now ≤ c.loop-change.change-index = omega arith in
    let all = all_through (λ h. ¬ IsLowerAt (choice c.args.overs.now) (left_of c.args.view.now) c.args.id h)
    c.args.changes.now c.loop-change.change-index whole c.loop-change.invariant.not_lower in (
      λ no. absurd (true≢false (sym no)),
      λ any. absurd (all any.0 any.1 any.2
          (subst (IsLowerAt (choice c.args.overs.now) (left_of c.args.view.now) c.args.id) (sym any.3) any.4)),
    )

pub returns-then-branch-clause-lower : goal.returns-then-branch-clause-lower
returns-then-branch-clause-lower c =
    let told = rw c.loop-change.invariant.same at c.in_ok-regresses_changed_element.ensures.lower in (
      λ on. (c.loop-change.change-index, c.change-item.result, omega arith, sym c.change-item.is, told.0 search),
      λ any. refl,
    )
