use Rattle.std.proofs.Common.{◌++◌, subst, arith}
use Rattle.intake_carry.specs.Keys.{AreKeysOf}
use Rattle.intake_carry.proofs.HeldKeys.{no_keys, next_item, all_items}
use Rattle.intake_carry.proofs.held_copies.internal_keys.Goals as goal

pub loop-item-init : goal.loop-item-init
loop-item-init c = no_keys c.new-keys.result c.new-keys.ensures.empty

pub loop-item-preserved : goal.loop-item-preserved
loop-item-preserved c =
    next_item c.loop-item.keys c.add_keys.new.keys c.args.items.now c.loop-item.item-index c.item-item.result
    (omega arith) c.item-item.is
    (λ before are. subst (λ l. AreKeysOf c.add_keys.new.keys (before ++ l)) c.holds_of.ensures
    (c.in_ok-add_keys.ensures before are)) c.loop-item.invariant

pub returns : goal.returns
returns c = all_items c.loop-item.keys c.args.items.now c.loop-item.item-index (omega arith) c.loop-item.invariant
