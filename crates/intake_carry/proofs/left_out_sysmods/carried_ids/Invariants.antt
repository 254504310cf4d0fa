use Rattle.std.proofs.Common.{take}
use Rattle.intake_carry.specs.Unsure.{AreIdsOf}
use Rattle.intake_carry.proofs.left_out_sysmods.carried_ids.Given as goal

abbrev pub invariant-loop-item : goal.invariant-loop-item
invariant-loop-item l = AreIdsOf l.ids (take l.item-index l.items)
