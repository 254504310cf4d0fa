use Rattle.std.proofs.Common.{subst, sym}
use Rattle.intake_command.specs.Acts.{IsQuiet, Speaks}
use Rattle.intake_command.specs.Done.{HasDone}
use Rattle.intake_command.specs.Serving.{Ends}
use Rattle.intake_command.proofs.Doing.{did, one}
use Rattle.intake_command.proofs.program.command.Goals as goal

pub returns-in-Ok : goal.returns-in-Ok
returns-in-Ok g c =
    subst (λ words. HasDone g.H.IntakeHost (Ends words c.serve_words.result) c.args.host.now c.serve_words.new.host)
    (sym c.in-Ok.is) (rw c.as_slice.ensures.value at c.serve_words.ensures)

pub returns-in-Err : goal.returns-in-Err
returns-in-Err g c =
    subst (λ words. HasDone g.H.IntakeHost (Ends words c.tell_fault.result) c.args.host.now c.tell_fault.new.host)
    (sym c.in-Err.is)
    (did g.H.IntakeHost _ Speaks _ c.tell_fault.ensures.says (c.tell_fault.ensures.status, one IsQuiet Speaks tt))
