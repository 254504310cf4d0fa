use Rattle.std.proofs.Common.{arith}
use Rattle.sysmods.proofs.Growth.{adds_next}
use Rattle.sysmods.proofs.search.see_named.Goals as goal

pub loop-next-preserved : goal.loop-next-preserved
loop-next-preserved g c =
    adds_next _ _ _ _ _ _ (omega arith) c.next-item.is c.in_ok-insert.ensures.keys c.loop-next.invariant
