use Rattle.intake_command.proofs.Doing.{quiet_did}
use Rattle.intake_command.proofs.own.read_start.Goals as goal

pub returns-in-Err-clause-err : goal.returns-in-Err-clause-err
returns-in-Err-clause-err g c = quiet_did g.H.IntakeHost _ _ _ c.in-Err.ensures.err tt
