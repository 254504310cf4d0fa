use Rattle.std.proofs.Common.{ap, length, refl, arith}
use Rattle.std.specs.String.{string_bytes}
use Rattle.intake_command.proofs.Doing.{idle, on_err, quiet, weaker}
use Rattle.intake_command.proofs.OneByOne.{read_next, read_whole}
use Rattle.intake_command.proofs.Harmless.{read_quiet}
use Rattle.intake_command.proofs.service.read_files.Goals as goal

pub loop-name-init : goal.loop-name-init
loop-name-init g c = idle g.H.IntakeHost _ (c.new-stated.ensures, refl)

pub loop-name-preserved : goal.loop-name-preserved
loop-name-preserved g c =
    let read = c.in_ok-stated.ensures.ok in
    read_next g.H.IntakeHost string_bytes c.args.asked.now.files.items c.loop-name.name-index c.name-item.result _
    c.loop-name.stated _ read.0 read.1 (omega (arith, ap length c.deref-name-items.ensures.value))
    (rw c.deref-name-items.ensures.value at c.name-item.is) c.as_str.ensures.value read.2 c.loop-name.invariant read.3

pub returns-in_err-stated-clause-err : goal.returns-in_err-stated-clause-err
returns-in_err-stated-clause-err g c =
    on_err _ (quiet g.H.IntakeHost (weaker g.H.IntakeHost c.loop-name.invariant (read_quiet _ _))
    c.in_err-stated.ensures.err)

pub returns-clause-ok : goal.returns-clause-ok
returns-clause-ok g c =
    read_whole g.H.IntakeHost string_bytes c.args.asked.now.files.items c.loop-name.name-index c.loop-name.stated
    (omega (arith, ap length c.deref-name-items.ensures.value)) c.loop-name.invariant
