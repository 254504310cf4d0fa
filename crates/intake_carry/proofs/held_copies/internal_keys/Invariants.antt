use Rattle.std.proofs.Common.{take}
use Rattle.std.specs.List.{flat_map}
use Rattle.intake_carry.specs.Carried.{holds_of}
use Rattle.intake_carry.specs.Keys.{AreKeysOf}
use Rattle.intake_carry.proofs.held_copies.internal_keys.Given as goal

abbrev pub invariant-loop-item : goal.invariant-loop-item
invariant-loop-item l = AreKeysOf l.keys (flat_map holds_of (take l.item-index l.items))
