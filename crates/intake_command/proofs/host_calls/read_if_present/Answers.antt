use Rattle.intake_command.proofs.Doing.{quiet_did}
use Rattle.intake_command.proofs.host_calls.read_if_present.Goals as goal

pub returns-in-Ok : goal.returns-in-Ok
returns-in-Ok g c = quiet_did g.H.IntakeHost _ _ _ c.in-Ok.ensures.ok tt

pub returns-in-Err : goal.returns-in-Err
returns-in-Err g c = quiet_did g.H.IntakeHost _ _ _ c.in-Err.ensures.err tt
