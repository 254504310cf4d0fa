use Rattle.intake_carry.proofs.UnsureNames.{whatever_found}
use Rattle.intake_carry.proofs.unsure.reason_without_shared.Goals as goal

pub returns-in_default : goal.returns-in_default
returns-in_default c = whatever_found c.text_of_any.result (rw c.in_default.is at c.first_in_conflict.ensures)
