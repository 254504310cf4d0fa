use Rattle.std.proofs.Common.{Contains, drop, ◌≤◌, ◌∙◌, ◌++◌, [], ◌∷◌, take, take_all, length, ap, sym, subst, arith}
use Rattle.std.specs.Prelude.{nat_eq}
use Rattle.std.proofs.lemmas.Bool.{eqb-true}
use Rattle.std.proofs.lemmas.List.{take_more, take-append-drop}
use Rattle.std.proofs.lemmas.List.Elements.{Contains-append_left}
use Rattle.indexmap.proofs.CallerLemmas.{Contains-list_any}
use Rattle.sysmods.specs.Choices.{choice}
use Rattle.judge_faults.specs.Sharing.{Marks, IsAgainst}
use Rattle.judge_faults.proofs.Marks.{against_more, against_rest}
use Rattle.judge_faults.proofs.sharing.mark_until_settled.Goals as goal

pub loop-other-preserved : goal.loop-other-preserved
loop-other-preserved c =
    let g = c.args.overs.now.global.now in
    let choices = choice c.args.overs.now in
    let claim = c.args.claim.now in
    let others = c.args.others.now in
    let i = c.loop-other.other-index in
    let other = c.other-item.result in
    let old = c.args.marked.now.keys in
    let new = c.mark_pair.new.marked.keys in
    let same = c.loop-other.invariant.same in
    record {
      same = c.in_ok-mark_pair.ensures.same ∙ same;
      marks = subst (λ l. Marks (IsAgainst g choices claim l) old new)
          (sym (take_more others i other (omega arith) ∙ ap (λ v. take i others ++ v ∷ []) (sym c.other-item.is)))
          (against_more g choices claim other (take i others) old c.loop-other.marked.keys new
          c.loop-other.invariant.marks (rw same at c.in_ok-mark_pair.ensures.marks));
    }

pub returns-then-contains-clause-marks : goal.returns-then-contains-clause-marks
returns-then-contains-clause-marks c all =
    let others = c.args.others.now in
    let front = take c.loop-other.other-index others in
    let keys = c.loop-other.marked.keys in
    against_rest c.args.overs.now.global.now (choice c.args.overs.now) c.args.claim.now front others
    c.args.marked.now.keys keys
    (λ b there. subst (λ l. Contains l b) (take-append-drop c.loop-other.other-index others)
    (Contains-append_left front (drop c.loop-other.other-index others) b there))
    (Contains-list_any nat_eq eqb-true keys c.args.claim.now.place (sym c.contains.ensures ∙ c.if-contains.true))
    c.loop-other.invariant.marks all

pub returns-clause-marks : goal.returns-clause-marks
returns-clause-marks c all =
    let whole : length c.args.others.now ≤ c.loop-other.other-index = omega arith in
    subst (λ l. Marks (IsAgainst c.args.overs.now.global.now (choice c.args.overs.now) c.args.claim.now l)
    c.args.marked.now.keys c.loop-other.marked.keys) (take_all c.loop-other.other-index c.args.others.now whole)
    c.loop-other.invariant.marks
