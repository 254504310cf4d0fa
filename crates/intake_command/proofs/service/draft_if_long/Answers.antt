use Rattle.std.proofs.lemmas.List.Elements.{All-nil}
use Rattle.intake_command.specs.Serving.{DraftsRemarks}
use Rattle.intake_command.proofs.Doing.{idle, on_err}
use Rattle.intake_command.proofs.Harmless.{drafted, left_harmless}
use Rattle.intake_command.proofs.service.draft_if_long.Goals as goal

pub returns-then-len-lt-DRAFT_SIZE-clause-ok : goal.returns-then-len-lt-DRAFT_SIZE-clause-ok
returns-then-len-lt-DRAFT_SIZE-clause-ok g c = idle g.H.IntakeHost _ (All-nil (DraftsRemarks c.args.folder.now))

pub returns-in_err-append_to_draft-clause-err : goal.returns-in_err-append_to_draft-clause-err
returns-in_err-append_to_draft-clause-err g c =
    on_err _ (left_harmless g.H.IntakeHost c.args.folder.now c.in_err-append_to_draft.ensures.err)

pub returns-clause-ok : goal.returns-clause-ok
returns-clause-ok g c = drafted g.H.IntakeHost c.args.folder.now _ c.in_ok-append_to_draft.ensures.ok
