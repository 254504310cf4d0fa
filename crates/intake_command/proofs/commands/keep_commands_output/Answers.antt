use Rattle.intake_command.proofs.Doing.{on_err}
use Rattle.intake_command.proofs.Harmless.{draft_harmless, harmless, harmless_did, kept_commands, left_harmless}
use Rattle.intake_command.proofs.Harmless.{nothing_harmless}
use Rattle.intake_command.proofs.commands.keep_commands_output.Goals as goal

pub returns-in_err-append_to_draft-clause-err : goal.returns-in_err-append_to_draft-clause-err
returns-in_err-append_to_draft-clause-err g c =
    on_err _ (left_harmless g.H.IntakeHost c.args.folder.now c.in_err-append_to_draft.ensures.err)

pub returns-in_err-print_summary-clause-err : goal.returns-in_err-print_summary-clause-err
returns-in_err-print_summary-clause-err g c =
    let f = c.args.folder.now in
    on_err _ (harmless g.H.IntakeHost f (draft_harmless g.H.IntakeHost f _ _ c.in_ok-append_to_draft.ensures.ok)
    (harmless_did g.H.IntakeHost f _ _ _ c.in_err-print_summary.ensures.err tt))

pub returns-in_err-keep_commands-clause-err : goal.returns-in_err-keep_commands-clause-err
returns-in_err-keep_commands-clause-err g c =
    let f = c.args.folder.now in
    on_err _ (harmless g.H.IntakeHost f (draft_harmless g.H.IntakeHost f _ _ c.in_ok-append_to_draft.ensures.ok)
    (harmless g.H.IntakeHost f (harmless_did g.H.IntakeHost f _ _ _ c.in_ok-print_summary.ensures.ok tt)
    (nothing_harmless g.H.IntakeHost f c.in_err-keep_commands.ensures.err)))

pub returns-clause-ok : goal.returns-clause-ok
returns-clause-ok g c = λ said is.
    kept_commands g.H.IntakeHost c.args.folder.now said _
    (rw c.command_line.ensures at c.in_ok-append_to_draft.ensures.ok) c.in_ok-print_summary.ensures.ok
    (c.in_ok-keep_commands.ensures.ok said is)
