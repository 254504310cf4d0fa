use Rattle.std.proofs.Common.{◌≤◌, ◌∙◌, length, take_all, subst, arith}
use Rattle.sysmods.specs.Choices.{choice}
use Rattle.sorted.proofs.Gaining.{holds_none, holds_next}
use Rattle.judge_faults.specs.Forbidders.{ForbidsBy, AreForbidders}
use Rattle.judge_faults.proofs.Forbidders.{C}
use Rattle.judge_faults.proofs.forbidden.forbidders.Goals as goal

pub loop-entry-init : goal.loop-entry-init
loop-entry-init c =
    holds_none C (ForbidsBy c.args.vers.now.global.now (choice c.args.vers.now)) c.new-forbidders.result
    c.new-forbidders.ensures.empty

pub loop-entry-preserved : goal.loop-entry-preserved
loop-entry-preserved c =
    holds_next C (ForbidsBy c.args.vers.now.global.now (choice c.args.vers.now)) c.loop-entry.forbidders
    c.add_forbidder.new.forbidders c.entries-entry-items.result.now c.loop-entry.entry-index c.entry-item.result
    (omega arith) c.entry-item.is c.loop-entry.invariant c.in_ok-add_forbidder.ensures

pub returns : goal.returns
returns c =
    let items = c.entries-entry-items.result.now in
    let whole : length items ≤ c.loop-entry.entry-index = omega arith in
    subst (λ l. AreForbidders c.args.vers.now.global.now (choice c.args.vers.now) l c.loop-entry.forbidders)
    (take_all c.loop-entry.entry-index items whole ∙ c.entries-entry-items.ensures.same) c.loop-entry.invariant
