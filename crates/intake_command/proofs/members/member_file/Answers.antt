use Rattle.intake_command.proofs.Doing.{quiet, quiet_idle}
use Rattle.intake_command.proofs.members.member_file.Goals as goal

pub returns-in_err-own : goal.returns-in_err-own
returns-in_err-own g c = quiet_idle g.H.IntakeHost _

pub returns-in_err-shared : goal.returns-in_err-shared
returns-in_err-shared g c = quiet_idle g.H.IntakeHost _

pub returns : goal.returns
returns g c = quiet g.H.IntakeHost c.in_ok-file.ensures c.read_member-2.ensures
