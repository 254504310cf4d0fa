use Rattle.std.proofs.Common.{◌≤◌, length, arith, subst, sym, true≢false, refl, ◌∙◌}
use Rattle.terms.specs.Over.{IsOver}
use Rattle.sysmods.specs.Choices.{choice}
use Rattle.terms.proofs.BesideLists.{all_next, all_through}
use Rattle.judge_faults.proofs.element_tests.is_not_over_all.Goals as goal

pub loop-other-preserved : goal.loop-other-preserved
loop-other-preserved c = record {
  same = c.in_ok-over.ensures.same ∙ c.loop-other.invariant.same;
  all = all_next (λ z. IsOver (choice c.args.overs.now) c.args.id z) c.args.others.now c.loop-other.other-index
      c.other-item.result
      (omega arith) c.other-item.is ((rw c.loop-other.invariant.same at c.in_ok-over.ensures.over).0 search)
      c.loop-other.invariant.all;
}

pub returns-clause-lower : goal.returns-clause-lower
returns-clause-lower c =
    let whole : length c.args.others.now ≤ c.loop-other.other-index = omega arith in
    let all = all_through (λ z. IsOver (choice c.args.overs.now) c.args.id z) c.args.others.now c.loop-other.other-index
    whole c.loop-other.invariant.all in (
      λ no. absurd (true≢false (sym no)),
      λ any. absurd (any.4
          (subst (IsOver (choice c.args.overs.now) c.args.id) any.3 (all any.0 any.1 any.2))),
    )

pub returns-then-not-branch-clause-lower : goal.returns-then-not-branch-clause-lower
returns-then-not-branch-clause-lower c =
    let told = rw c.loop-other.invariant.same at c.in_ok-over.ensures.over in (
      λ on. (
        c.loop-other.other-index,
        c.other-item.result,
        omega arith,
        sym c.other-item.is,
        λ over. true≢false (sym (told.1 over) ∙ search),
      ),
      λ any. refl,
    )
