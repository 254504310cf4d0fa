use Rattle.std.proofs.Common.{◌≡◌, length, take, filter}
use Rattle.intake_service.specs.Carrying.{is_sysmod}
use Rattle.intake_service.proofs.carried.count_carried.Given as goal

abbrev pub invariant-loop-item : goal.invariant-loop-item
invariant-loop-item l = l.count ≡ length (filter is_sysmod (take l.item-index l.items))
