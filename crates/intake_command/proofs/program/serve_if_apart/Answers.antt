use Rattle.intake_command.specs.Serving.{EndsEqual}
use Rattle.intake_command.proofs.Doing.{quiet, weaker}
use Rattle.intake_command.proofs.Served.{ended_apart}
use Rattle.intake_command.proofs.program.serve_if_apart.Goals as goal

pub returns-in-Ok : goal.returns-in-Ok
returns-in-Ok g c =
    ended_apart g.H.IntakeHost c.args.asked.now c.serve_or_discard.result c.in-Ok.ensures.ok c.serve_or_discard.ensures

pub returns-in-Err : goal.returns-in-Err
returns-in-Err g c =
    weaker g.H.IntakeHost (quiet g.H.IntakeHost c.in-Err.ensures.err c.tell_fault_beside.ensures.says)
    (λ acts all. EndsEqual c.tell_fault_beside.ensures.status all)
