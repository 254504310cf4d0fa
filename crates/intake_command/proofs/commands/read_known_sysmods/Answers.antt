use Rattle.intake_command.proofs.Doing.{on_err, weaker}
use Rattle.intake_command.proofs.OneByOne.{known_quiet}
use Rattle.intake_command.proofs.commands.read_known_sysmods.Goals as goal

pub returns-in_err-gather_known-clause-err : goal.returns-in_err-gather_known-clause-err
returns-in_err-gather_known-clause-err g c =
    on_err _ (weaker g.H.IntakeHost c.in_ok-files.ensures.ok (known_quiet _ _))

pub returns-clause-ok : goal.returns-clause-ok
returns-clause-ok g c =
    weaker g.H.IntakeHost c.in_ok-files.ensures.ok
    (λ acts read. (c.in_ok-files.files.items, read, c.in_ok-gather_known.ensures))
