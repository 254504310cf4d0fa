use Rattle.sysmods.proofs.Empty.{empty}
use Rattle.sysmods.proofs.global_zone.GlobalZone.new.Goals as goal

pub invariant_of-result : goal.invariant_of-result
invariant_of-result c = rw (c.new.ensures, c.new-2.ensures) empty
