use Rattle.std.proofs.Common.{arith}
use Rattle.sysmods.proofs.Growth.{adds_none, adds_next}
use Rattle.stream.proofs.keeping.insert_all.Goals as goal

pub loop-id-init : goal.loop-id-init
loop-id-init c = adds_none c.args.kept.now.keys

pub loop-id-preserved : goal.loop-id-preserved
loop-id-preserved c =
    adds_next _ _ _ _ _ _ (omega arith) c.id-item.is c.in_ok-insert.ensures.keys c.loop-id.invariant
