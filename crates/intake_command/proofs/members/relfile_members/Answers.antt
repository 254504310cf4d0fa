use Rattle.intake_command.proofs.Doing.{quiet_idle}
use Rattle.intake_command.proofs.members.relfile_members.Goals as goal

pub returns-in_default : goal.returns-in_default
returns-in_default g c = quiet_idle g.H.IntakeHost _

pub returns-in_err-elements : goal.returns-in_err-elements
returns-in_err-elements g c = quiet_idle g.H.IntakeHost _
