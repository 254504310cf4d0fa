use Rattle.std.proofs.Common.{arith}
use Rattle.smpe_mend.proofs.Gaining.{gained_none, gained_more}
use Rattle.smpe_mend.proofs.growing.add_new.Goals as goal

pub loop-action-init : goal.loop-action-init
loop-action-init c = gained_none c.args.actions.now.items

pub loop-action-preserved : goal.loop-action-preserved
loop-action-preserved c =
    gained_more c.args.actions.now.items c.loop-action.actions.items _ c.args.more.now c.loop-action.action-index
    c.action-item.result (omega arith) c.action-item.is c.in_ok-add_if_new.ensures c.loop-action.invariant
