use Rattle.std.proofs.Common.{inl}
use Rattle.intake_command.proofs.Doing.{weaker}
use Rattle.intake_command.proofs.Served.{failed}
use Rattle.intake_command.proofs.program.serve_or_discard.Goals as goal

pub returns-in-Ok : goal.returns-in-Ok
returns-in-Ok g c = weaker g.H.IntakeHost c.in-Ok.ensures.ok (λ acts s. inl s)

pub returns-in-Err : goal.returns-in-Err
returns-in-Err g c =
    failed g.H.IntakeHost c.args.asked.now c.tell_fault_beside.result c.tell_fault_beside.ensures.status
    c.in-Err.ensures.err (rw c.as_str.ensures.value at c.discard_drafts.ensures) c.tell_fault_beside.ensures.says
