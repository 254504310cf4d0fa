use Rattle.std.proofs.Common.{◌≡◌, ◌∙◌, arith, length, subst}
use Rattle.sysmods.specs.Choices.{choice}
use Rattle.judge_faults.specs.Sharing.{Marks}
use Rattle.judge_faults.proofs.Naming.{IsByNpreBefore, before_next, before_all, clashing_both}
use Rattle.judge_faults.proofs.clashes.clashing_places.Goals as goal

pub loop-i-preserved : goal.loop-i-preserved
loop-i-preserved c =
    before_next c.args.ids.now c.args.faults.now (choice c.vers-vers.result.now) c.loop-i.i c.in_ok-marked.marked.keys
    c.loop-i.marked.keys c.mark_by_npre.new.marked.keys c.loop-i.invariant c.in_ok-mark_by_npre.ensures

pub returns-clause-clashing : goal.returns-clause-clashing
returns-clause-clashing c =
    let ids = c.args.ids.now in
    let faults = c.args.faults.now in
    let choices = choice c.args.overs.now in
    let old = c.in_ok-marked.marked.keys in
    let new = c.loop-i.marked.keys in
    let done : c.loop-i.i ≡ length ids = omega arith in
    clashing_both ids faults choices c.args.overs.now.global.now old new c.in_ok-marked.ensures.clashing
    (before_all ids faults choices old new (subst (λ n. Marks (IsByNpreBefore choices ids faults n) old new) done
    (rw (c.vers-vers.ensures ∙ c.in_ok-marked.ensures.same) at c.loop-i.invariant)))
