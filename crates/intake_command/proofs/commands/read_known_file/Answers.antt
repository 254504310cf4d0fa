use Rattle.std.proofs.Common.{refl}
use Rattle.intake_command.proofs.Doing.{did, on_err, quiet_did}
use Rattle.intake_command.proofs.commands.read_known_file.Goals as goal

pub returns-in_err-file-clause-err : goal.returns-in_err-file-clause-err
returns-in_err-file-clause-err g c = on_err _ (quiet_did g.H.IntakeHost _ _ _ c.in_ok-bytes.ensures.ok tt)

pub returns-clause-ok : goal.returns-clause-ok
returns-clause-ok g c =
    did g.H.IntakeHost _ _ _ c.in_ok-bytes.ensures.ok
    (c.in_ok-file.file, c.in_ok-bytes.bytes.items, refl, refl, rw c.deref.ensures.value at c.in_ok-file.ensures)
