use Rattle.std.proofs.Common.{subst}
use Rattle.mcs.specs.Files as ptfin
use Rattle.mcs.specs.HoldItems as hold
use Rattle.intake_command.specs.Keeping.{IsServiceFiles, KeepsFiles}
use Rattle.intake_command.specs.Serving.{folder_of}
use Rattle.intake_command.proofs.Doing.{on_err}
use Rattle.intake_command.proofs.Harmless.{draft_harmless, drafts_harmless, harmless, harmless_did, kept_service}
use Rattle.intake_command.proofs.Harmless.{left_harmless, nothing_harmless}
use Rattle.intake_command.proofs.service.keep_files.Goals as goal

pub returns-in_err-append_to_draft-clause-err : goal.returns-in_err-append_to_draft-clause-err
returns-in_err-append_to_draft-clause-err g c =
    on_err _ (left_harmless g.H.IntakeHost (folder_of c.args.asked.now)
    (rw c.as_str-folder.ensures.value at c.in_err-append_to_draft.ensures.err))

pub returns-in_err-lines-clause-err : goal.returns-in_err-lines-clause-err
returns-in_err-lines-clause-err g c =
    let f = folder_of c.args.asked.now in
    let began = rw c.as_str-folder.ensures.value at c.in_ok-append_to_draft.ensures.ok in
    on_err _ (harmless g.H.IntakeHost f (draft_harmless g.H.IntakeHost f _ _ began)
    (rw c.as_str-folder.ensures.value at c.in_err-lines.ensures.err))

pub returns-in_err-print_summary-clause-err : goal.returns-in_err-print_summary-clause-err
returns-in_err-print_summary-clause-err g c =
    let f = folder_of c.args.asked.now in
    let began = rw c.as_str-folder.ensures.value at c.in_ok-append_to_draft.ensures.ok in
    let drafted = rw c.as_str-folder.ensures.value at c.in_ok-lines.ensures.ok in
    on_err _ (harmless g.H.IntakeHost f (draft_harmless g.H.IntakeHost f _ _ began)
    (harmless g.H.IntakeHost f (drafts_harmless g.H.IntakeHost f drafted)
    (harmless_did g.H.IntakeHost f _ _ _ c.in_err-print_summary.ensures.err tt)))

pub returns-in_err-keep_service-clause-err : goal.returns-in_err-keep_service-clause-err
returns-in_err-keep_service-clause-err g c =
    let f = folder_of c.args.asked.now in
    let began = rw c.as_str-folder.ensures.value at c.in_ok-append_to_draft.ensures.ok in
    let drafted = rw c.as_str-folder.ensures.value at c.in_ok-lines.ensures.ok in
    on_err _ (harmless g.H.IntakeHost f (draft_harmless g.H.IntakeHost f _ _ began)
    (harmless g.H.IntakeHost f (drafts_harmless g.H.IntakeHost f drafted)
    (harmless g.H.IntakeHost f (harmless_did g.H.IntakeHost f _ _ _ c.in_ok-print_summary.ensures.ok tt)
    (nothing_harmless g.H.IntakeHost f (rw c.as_str-folder.ensures.value at c.in_err-keep_service.ensures.err)))))

pub returns-clause-ok : goal.returns-clause-ok
returns-clause-ok g c =
    let f = folder_of c.args.asked.now in
    let began = rw c.service_line.ensures at (rw c.as_str-folder.ensures.value at c.in_ok-append_to_draft.ensures.ok) in
    let drafted = rw c.as_str-folder.ensures.value at c.in_ok-lines.ensures.ok in
    let kept = rw c.as_str-folder.ensures.value at c.in_ok-keep_service.ensures.ok in
    kept_service g.H.IntakeHost f c.args.asked.now.decide _ _ _ began drafted c.in_ok-print_summary.ensures.ok
    (subst (λ d. KeepsFiles g.H.IntakeHost c.print_summary.new.host f
    (IsServiceFiles (ptfin.items c.args.made.items.items) (hold.items c.args.made.hold_items.items) d)
    c.keep_service.new.host) c.requires
    (rw c.deref-3.ensures.value at (rw c.deref-2.ensures.value at kept)))
