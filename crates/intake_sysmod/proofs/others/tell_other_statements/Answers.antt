use Rattle.std.proofs.Common.{arith}
use Rattle.terms.proofs.BesideLists.{all_next, all_through}
use Rattle.intake_sysmod.specs.NoLooser.{IsHarmlessOther}
use Rattle.intake_sysmod.proofs.others.tell_other_statements.Goals as goal

pub loop-other-preserved : goal.loop-other-preserved
loop-other-preserved c = λ t.
    let b = c.are_both-may_lack_all.ensures t in
    all_next (IsHarmlessOther c.args.options.now.decide) c.args.others.now c.loop-other.other-index c.other-item.result
    (omega arith) c.other-item.is (c.in_ok-may_lack.ensures b.1) (c.loop-other.invariant b.0)

pub returns : goal.returns
returns c = λ t.
    all_through (IsHarmlessOther c.args.options.now.decide) c.args.others.now c.loop-other.other-index (omega arith)
    (c.loop-other.invariant t)
