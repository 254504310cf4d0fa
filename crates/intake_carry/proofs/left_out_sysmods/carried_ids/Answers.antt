use Rattle.std.proofs.Common.{subst, take, arith}
use Rattle.std.proofs.lemmas.List.{take_all}
use Rattle.intake_carry.specs.Unsure.{AreIdsOf}
use Rattle.intake_carry.proofs.UnsureNames.{no_ids, next_front}
use Rattle.intake_carry.proofs.left_out_sysmods.carried_ids.Goals as goal

pub loop-item-init : goal.loop-item-init
loop-item-init c = no_ids c.new-ids.result c.new-ids.ensures.empty

pub loop-item-preserved : goal.loop-item-preserved
loop-item-preserved c =
    next_front (AreIdsOf c.add_id.new.ids) c.args.items.now c.loop-item.item-index c.item-item.result (omega arith)
    c.item-item.is
    (c.in_ok-add_id.ensures (take c.loop-item.item-index c.args.items.now) c.loop-item.invariant)

pub returns : goal.returns
returns c =
    subst (AreIdsOf c.loop-item.ids) (take_all c.loop-item.item-index c.args.items.now (omega arith))
    c.loop-item.invariant
