use Rattle.std.proofs.Common.{inr, refl}
use Rattle.intake_command.specs.Serving.{folder_of}
use Rattle.intake_command.proofs.Doing.{on_err, quiet, quiet_did, weaker}
use Rattle.intake_command.proofs.Served.{served_commands}
use Rattle.intake_command.proofs.Harmless.{harmless, quiet_harmless}
use Rattle.intake_command.proofs.OneByOne.{all_known_quiet}
use Rattle.intake_command.proofs.commands.serve_commands.Goals as goal

pub returns-in_err-bytes-clause-err : goal.returns-in_err-bytes-clause-err
returns-in_err-bytes-clause-err g c =
    on_err _ (quiet_harmless g.H.IntakeHost (folder_of c.args.asked.now) c.in_err-bytes.ensures.err)

pub returns-in_err-known-clause-err : goal.returns-in_err-known-clause-err
returns-in_err-known-clause-err g c =
    on_err _ (quiet_harmless g.H.IntakeHost (folder_of c.args.asked.now)
    (quiet g.H.IntakeHost (quiet_did g.H.IntakeHost _ _ _ c.in_ok-bytes.ensures.ok tt) c.in_err-known.ensures.err))

pub returns-in_err-made-clause-err : goal.returns-in_err-made-clause-err
returns-in_err-made-clause-err g c =
    on_err _ (quiet_harmless g.H.IntakeHost (folder_of c.args.asked.now)
    (quiet g.H.IntakeHost (quiet_did g.H.IntakeHost _ _ _ c.in_ok-bytes.ensures.ok tt)
    (weaker g.H.IntakeHost c.in_ok-known.ensures.ok (all_known_quiet _ _))))

pub returns-in_err-keep_commands_output-in-Carried-clause-err : goal.returns-in_err-keep_commands_output-in-Carried-clause-err
returns-in_err-keep_commands_output-in-Carried-clause-err g c =
    let f = folder_of c.args.asked.now in
    on_err _ (harmless g.H.IntakeHost f (quiet_harmless g.H.IntakeHost f
    (quiet g.H.IntakeHost (quiet_did g.H.IntakeHost _ _ _ c.in_ok-bytes.ensures.ok tt)
    (weaker g.H.IntakeHost c.in_ok-known.ensures.ok (all_known_quiet _ _))))
    (rw c.as_str.ensures.value at c.in_err-keep_commands_output-in-Carried.ensures.err))

pub returns-in_err-tell_refusal-in-Refused-clause-err : goal.returns-in_err-tell_refusal-in-Refused-clause-err
returns-in_err-tell_refusal-in-Refused-clause-err g c =
    on_err _ (quiet_harmless g.H.IntakeHost (folder_of c.args.asked.now)
    (quiet g.H.IntakeHost (quiet g.H.IntakeHost (quiet_did g.H.IntakeHost _ _ _ c.in_ok-bytes.ensures.ok tt)
    (weaker g.H.IntakeHost c.in_ok-known.ensures.ok (all_known_quiet _ _))) c.in_err-tell_refusal-in-Refused.ensures))

pub returns-in-Carried-clause-ok : goal.returns-in-Carried-clause-ok
returns-in-Carried-clause-ok g c =
    let said = rw c.in-Carried.is at c.in_ok-made.ensures in
    served_commands g.H.IntakeHost c.args.asked.now c.args.name.now c.in_ok-bytes.bytes.items said.0
    c.in_ok-known.known said.1 c.in_ok-bytes.ensures.ok
    (rw c.deref.ensures.value at c.in_ok-known.ensures.ok) said.3
    (rw c.as_str.ensures.value at c.in_ok-keep_commands_output-in-Carried.ensures.ok said.1 said.2)

pub returns-clause-ok : goal.returns-clause-ok
returns-clause-ok g c =
    weaker g.H.IntakeHost (quiet g.H.IntakeHost (quiet g.H.IntakeHost
    (quiet_did g.H.IntakeHost _ _ _ c.in_ok-bytes.ensures.ok tt)
    (weaker g.H.IntakeHost c.in_ok-known.ensures.ok (all_known_quiet _ _))) c.in_ok-tell_refusal-in-Refused.ensures)
    (λ acts all. inr (refl, all))
