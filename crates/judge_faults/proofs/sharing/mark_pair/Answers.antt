use Rattle.std.proofs.Common.{sym, ◌∙◌, true≢false}
use Rattle.std.specs.Prelude.{nat_eq}
use Rattle.std.proofs.lemmas.Bool.{eqb-true}
use Rattle.sysmods.specs.Choices.{choice}
use Rattle.judge_faults.proofs.Marks.{marks_insert, pair_marked}
use Rattle.judge_faults.proofs.sharing.mark_pair.Goals as goal

pub returns-in_ok-insert-2-clause-marks : goal.returns-in_ok-insert-2-clause-marks
returns-in_ok-insert-2-clause-marks c =
    let one = c.args.one.now in
    let other = c.args.other.now in
    let old = c.args.marked.now.keys in
    let middle = c.insert.new.self.keys in
    let new = c.insert-then-branch.new.self.keys in
    pair_marked c.args.overs.now.global.now (choice c.args.overs.now) one other old middle new (
      λ same. true≢false (sym (c.is_settled.ensures.own same) ∙ c.if-is_settled.false),
      c.in_ok-may_not_share.ensures.apart.0 c.if-branch.true,
    )
    (marks_insert nat_eq eqb-true old middle one.place c.in_ok-insert.ensures.keys)
    (marks_insert nat_eq eqb-true middle new other.place c.in_ok-insert-2.ensures.keys)
