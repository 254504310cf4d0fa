use Rattle.intake_command.proofs.Doing.{quiet, quiet_did}
use Rattle.intake_command.proofs.program.tell_fault_beside.Goals as goal

pub returns-clause-says : goal.returns-clause-says
returns-clause-says g c =
    quiet g.H.IntakeHost (quiet_did g.H.IntakeHost _ _ _ c.tell_fault-status.ensures.says tt)
    c.tell_earlier_files.ensures
