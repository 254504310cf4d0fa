use Rattle.intake_command.proofs.Doing.{quiet, quiet_did}
use Rattle.intake_command.proofs.commands.tell_refusal.Goals as goal

pub returns-in_err-print_summary : goal.returns-in_err-print_summary
returns-in_err-print_summary g c = quiet_did g.H.IntakeHost _ _ _ c.in_err-print_summary.ensures.err tt

pub returns : goal.returns
returns g c =
    quiet g.H.IntakeHost (quiet g.H.IntakeHost (quiet_did g.H.IntakeHost _ _ _ c.in_ok-print_summary.ensures.ok tt)
    (quiet_did g.H.IntakeHost _ _ _ c.tell.ensures tt)) c.tell_earlier_files.ensures
