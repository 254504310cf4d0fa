use Rattle.std.proofs.Common.{◌≤◌, ◌∙◌, ◌++◌, [], ◌∷◌, take, take_all, length, ap, sym, subst, arith}
use Rattle.std.proofs.lemmas.List.{take_more}
use Rattle.sysmods.specs.Choices.{choice}
use Rattle.judge_faults.specs.Sharing.{Marks, IsAgainst}
use Rattle.judge_faults.proofs.Marks.{against_more}
use Rattle.judge_faults.proofs.sharing.mark_against.Goals as goal

pub loop-other-preserved : goal.loop-other-preserved
loop-other-preserved c =
    let g = c.args.overs.now.global.now in
    let choices = choice c.args.overs.now in
    let claim = c.args.claim.now in
    let others = c.args.others.now in
    let i = c.loop-other.other-index in
    let other = c.other-item.result in
    let old = c.args.marked.now.keys in
    let new = c.mark_pair.new.marked.keys in
    let same = c.loop-other.invariant.same in
    record {
      same = c.in_ok-mark_pair.ensures.same ∙ same;
      marks = subst (λ l. Marks (IsAgainst g choices claim l) old new)
          (sym (take_more others i other (omega arith) ∙ ap (λ v. take i others ++ v ∷ []) (sym c.other-item.is)))
          (against_more g choices claim other (take i others) old c.loop-other.marked.keys new
          c.loop-other.invariant.marks (rw same at c.in_ok-mark_pair.ensures.marks));
    }

pub returns-clause-marks : goal.returns-clause-marks
returns-clause-marks c =
    let whole : length c.args.others.now ≤ c.loop-other.other-index = omega arith in
    subst (λ l. Marks (IsAgainst c.args.overs.now.global.now (choice c.args.overs.now) c.args.claim.now l)
    c.args.marked.now.keys c.loop-other.marked.keys) (take_all c.loop-other.other-index c.args.others.now whole)
    c.loop-other.invariant.marks
