use Rattle.intake_command.proofs.Doing.{quiet_did, quiet_idle}
use Rattle.intake_command.proofs.program.tell_earlier_files.Goals as goal

pub returns-then-not-has_earlier : goal.returns-then-not-has_earlier
returns-then-not-has_earlier g c = quiet_idle g.H.IntakeHost _

pub returns-in-Ok : goal.returns-in-Ok
returns-in-Ok g c = quiet_did g.H.IntakeHost _ _ _ c.tell.ensures tt

pub returns-in_default : goal.returns-in_default
returns-in_default g c = quiet_idle g.H.IntakeHost _
