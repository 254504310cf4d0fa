use Rattle.std.proofs.Common.{refl}
use Rattle.intake_holds.proofs.outside.OutsideHolds.new.Goals as goal

pub returns : goal.returns
returns c = λ f. (refl, c.new.ensures.items)
