use Rattle.intake_command.proofs.Doing.{quiet_did}
use Rattle.intake_command.proofs.own.check_absent.Goals as goal

pub returns-in-Err-clause-err : goal.returns-in-Err-clause-err
returns-in-Err-clause-err g c = quiet_did g.H.IntakeHost _ _ _ c.in-Err.ensures.err tt

pub returns-then-is_present-clause-err : goal.returns-then-is_present-clause-err
returns-then-is_present-clause-err g c = quiet_did g.H.IntakeHost _ _ _ c.in-Ok.ensures.ok tt

pub returns-clause-ok : goal.returns-clause-ok
returns-clause-ok g c = rw c.if-is_present.false at c.in-Ok.ensures.ok
