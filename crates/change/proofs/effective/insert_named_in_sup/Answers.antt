use Rattle.std.proofs.Common.{arith}
use Rattle.sysmods.proofs.Growth.{adds_none, adds_next}
use Rattle.change.proofs.effective.insert_named_in_sup.Goals as goal

pub loop-other-init : goal.loop-other-init
loop-other-init c = adds_none c.args.seen.now.keys

pub loop-other-preserved : goal.loop-other-preserved
loop-other-preserved c =
    adds_next _ _ _ _ _ _ (omega arith) c.other-item.is c.in_ok-insert.ensures.keys c.loop-other.invariant
