use Rattle.std.proofs.Common.{inr, refl}
use Rattle.intake_command.proofs.commands.known_list.Goals as goal

pub returns-in-Sysmods : goal.returns-in-Sysmods
returns-in-Sysmods c = inr (refl, rw c.in-Sysmods.is at c.in_ok-sysmods.ensures)
