use Rattle.std.proofs.lemmas.List.Elements.{All-nil}
use Rattle.intake_command.specs.Serving.{DraftsRemarks}
use Rattle.intake_command.proofs.Doing.{idle, on_err}
use Rattle.intake_command.proofs.Harmless.{drafts_more, drafts_harmless, harmless}
use Rattle.intake_command.proofs.service.draft_remarks.Goals as goal

pub loop-place-init : goal.loop-place-init
loop-place-init g c = idle g.H.IntakeHost _ (All-nil (DraftsRemarks c.args.folder.now))

pub loop-place-preserved : goal.loop-place-preserved
loop-place-preserved g c =
    drafts_more g.H.IntakeHost c.args.folder.now c.loop-place.invariant c.in_ok-lines.ensures.ok

pub returns-in_err-append_remark_line-clause-err : goal.returns-in_err-append_remark_line-clause-err
returns-in_err-append_remark_line-clause-err g c =
    on_err _ (drafts_harmless g.H.IntakeHost c.args.folder.now c.loop-place.invariant)

pub returns-in_err-lines-clause-err : goal.returns-in_err-lines-clause-err
returns-in_err-lines-clause-err g c =
    on_err _ (harmless g.H.IntakeHost c.args.folder.now
    (drafts_harmless g.H.IntakeHost c.args.folder.now c.loop-place.invariant) c.in_err-lines.ensures.err)

pub returns-clause-ok : goal.returns-clause-ok
returns-clause-ok g c = c.loop-place.invariant
