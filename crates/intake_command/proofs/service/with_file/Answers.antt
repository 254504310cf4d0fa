use Rattle.intake_command.proofs.Doing.{on_err, quiet_did}
use Rattle.intake_command.proofs.service.with_file.Goals as goal

pub returns-in_err-all-clause-err : goal.returns-in_err-all-clause-err
returns-in_err-all-clause-err g c = on_err _ (quiet_did g.H.IntakeHost _ _ _ c.in_ok-bytes.ensures.ok tt)

pub returns-clause-ok : goal.returns-clause-ok
returns-clause-ok g c =
    (c.in_ok-all.ensures.0, c.in_ok-bytes.bytes.items, c.in_ok-all.ensures.1, c.in_ok-bytes.ensures.ok)
