use Rattle.std.proofs.Common.{subst}
use Rattle.intake_service.specs.Carrying.{HasEachSysmod}
use Rattle.intake_command.specs.Serving.{folder_of}
use Rattle.intake_command.proofs.Doing.{on_err}
use Rattle.intake_command.proofs.Served.{served_files}
use Rattle.intake_command.proofs.Harmless.{harmless, quiet_harmless, reading_harmless}
use Rattle.intake_command.proofs.service.serve_files.Goals as goal

pub returns-in_err-stated-clause-err : goal.returns-in_err-stated-clause-err
returns-in_err-stated-clause-err g c =
    on_err _ (quiet_harmless g.H.IntakeHost (folder_of c.args.asked.now) c.in_err-stated.ensures.err)

pub returns-in_err-members-clause-err : goal.returns-in_err-members-clause-err
returns-in_err-members-clause-err g c =
    let f = folder_of c.args.asked.now in
    on_err _ (harmless g.H.IntakeHost f (reading_harmless g.H.IntakeHost f _ _ c.in_ok-stated.ensures.ok)
    (quiet_harmless g.H.IntakeHost f c.in_err-members.ensures))

pub returns-in_err-carried-clause-err : goal.returns-in_err-carried-clause-err
returns-in_err-carried-clause-err g c =
    let f = folder_of c.args.asked.now in
    on_err _ (harmless g.H.IntakeHost f (reading_harmless g.H.IntakeHost f _ _ c.in_ok-stated.ensures.ok)
    (quiet_harmless g.H.IntakeHost f c.in_ok-members.ensures))

pub returns-in_err-made-clause-err : goal.returns-in_err-made-clause-err
returns-in_err-made-clause-err g c =
    let f = folder_of c.args.asked.now in
    on_err _ (harmless g.H.IntakeHost f (reading_harmless g.H.IntakeHost f _ _ c.in_ok-stated.ensures.ok)
    (quiet_harmless g.H.IntakeHost f c.in_ok-members.ensures))

pub returns-in_err-keep_files-clause-err : goal.returns-in_err-keep_files-clause-err
returns-in_err-keep_files-clause-err g c =
    let f = folder_of c.args.asked.now in
    on_err _ (harmless g.H.IntakeHost f (reading_harmless g.H.IntakeHost f _ _ c.in_ok-stated.ensures.ok)
    (harmless g.H.IntakeHost f (quiet_harmless g.H.IntakeHost f c.in_ok-members.ensures)
    c.in_err-keep_files.ensures.err))

pub returns-clause-ok : goal.returns-clause-ok
returns-clause-ok g c =
    let carried = c.in_ok-carried.carried.narrowed in
    let made = c.in_ok-made.made in
    served_files g.H.IntakeHost c.args.asked.now c.in_ok-stated.stated carried.items.items made.items.items
    carried.hold_items.items made.hold_items.items carried.unsure.items c.status-status.result
    c.in_ok-stated.ensures.ok c.in_ok-members.ensures c.in_ok-carried.ensures.carries c.in_ok-carried.ensures.unsure
    c.status-status.ensures.status
    (λ zero. subst (λ files. HasEachSysmod files carried.items.items) c.in_ok-carried.ensures.files
    (c.status-status.ensures.each zero))
    c.status-status.ensures.sure c.in_ok-made.ensures.items c.in_ok-made.ensures.holds c.in_ok-keep_files.ensures.ok
