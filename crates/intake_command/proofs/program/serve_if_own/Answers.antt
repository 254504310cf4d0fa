use Rattle.intake_command.specs.Serving.{EndsBefore}
use Rattle.intake_command.proofs.Doing.{quiet, quiet_did, weaker}
use Rattle.intake_command.proofs.Served.{ended_own}
use Rattle.intake_command.proofs.program.serve_if_own.Goals as goal

pub returns-in-Ok : goal.returns-in-Ok
returns-in-Ok g c =
    ended_own g.H.IntakeHost c.args.asked.now c.serve_if_apart.result c.in-Ok.ensures.ok c.serve_if_apart.ensures

pub returns-in-Err : goal.returns-in-Err
returns-in-Err g c =
    weaker g.H.IntakeHost (quiet g.H.IntakeHost c.in-Err.ensures.err
    (quiet_did g.H.IntakeHost _ _ _ c.tell_fault.ensures.says tt))
    (λ acts all. EndsBefore c.tell_fault.ensures.status all)
