use Rattle.std.proofs.Common.{arith}
use Rattle.select.proofs.Reasoned.{found_next}
use Rattle.select.proofs.left_out.ids_with_reasons.Goals as goal

pub loop-id-preserved : goal.loop-id-preserved
loop-id-preserved c =
    found_next c.args.scope.now c.args.ids.now c.loop-id.id-index c.id-item.result c.loop-id.found.items
    c.push_with_reason.new.found.items (omega arith) c.id-item.is c.in_ok-push_with_reason.ensures c.loop-id.invariant
