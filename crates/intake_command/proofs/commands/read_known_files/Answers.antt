use Rattle.std.proofs.Common.{refl, arith}
use Rattle.std.specs.String.{string_bytes}
use Rattle.intake_command.proofs.Doing.{idle, on_err, quiet, weaker}
use Rattle.intake_command.proofs.OneByOne.{known_next, known_whole, known_quiet, one_known_quiet}
use Rattle.intake_command.proofs.commands.read_known_files.Goals as goal

pub loop-name-init : goal.loop-name-init
loop-name-init g c = idle g.H.IntakeHost _ (c.new-files.ensures.items, refl)

pub loop-name-preserved : goal.loop-name-preserved
loop-name-preserved g c =
    known_next g.H.IntakeHost string_bytes c.args.names.now c.loop-name.name-index c.name-item.result _
    c.loop-name.files.items c.push.new.self.items c.in_ok-file.file (omega arith) c.name-item.is
    c.as_str.ensures.value c.in_ok-push.ensures.items c.loop-name.invariant c.in_ok-file.ensures.ok

pub returns-in_err-file-clause-err : goal.returns-in_err-file-clause-err
returns-in_err-file-clause-err g c =
    on_err _ (quiet g.H.IntakeHost (weaker g.H.IntakeHost c.loop-name.invariant (known_quiet _ _))
    c.in_err-file.ensures.err)

pub returns-in_err-push-clause-err : goal.returns-in_err-push-clause-err
returns-in_err-push-clause-err g c =
    on_err _ (quiet g.H.IntakeHost (weaker g.H.IntakeHost c.loop-name.invariant (known_quiet _ _))
    (weaker g.H.IntakeHost c.in_ok-file.ensures.ok (one_known_quiet _ _)))

pub returns-clause-ok : goal.returns-clause-ok
returns-clause-ok g c =
    known_whole g.H.IntakeHost string_bytes c.args.names.now c.loop-name.name-index c.loop-name.files.items
    (omega arith) c.loop-name.invariant
