use Rattle.std.proofs.Common.{[], sym, subst, arith}
use Rattle.sysmods.specs.Seen.{AddsAll}
use Rattle.sysmods.proofs.Growth.{adds_none}
use Rattle.select.specs.Growing.{asked_first}
use Rattle.select.proofs.Adds.{adds_flat}
use Rattle.select.proofs.growing.asked_by_start.Goals as goal

pub loop-id-init : goal.loop-id-init
loop-id-init c = subst (AddsAll [] []) (sym c.new-seen.ensures.empty) (adds_none [])

pub loop-id-preserved : goal.loop-id-preserved
loop-id-preserved c =
    adds_flat (asked_first c.args.scope.now) [] c.args.start.now c.loop-id.seen.keys c.insert_first_asked.new.seen.keys
    c.loop-id.id-index c.id-item.result (omega arith) c.id-item.is c.in_ok-insert_first_asked.ensures
    c.loop-id.invariant
