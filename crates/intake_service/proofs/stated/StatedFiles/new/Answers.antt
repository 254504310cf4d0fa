use Rattle.intake_service.proofs.Holding.{held_none}
use Rattle.intake_service.proofs.stated.StatedFiles.new.Goals as goal

pub invariant_of-result : goal.invariant_of-result
invariant_of-result c = held_none c.new.result.items c.new-2.result c.new.ensures.items c.new-2.ensures
