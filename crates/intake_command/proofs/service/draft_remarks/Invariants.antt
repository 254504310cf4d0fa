use Rattle.std.specs.List.{All}
use Rattle.intake_command.specs.Done.{HasDone}
use Rattle.intake_command.specs.Serving.{DraftsRemarks}
use Rattle.intake_command.proofs.service.draft_remarks.Given as goal

abbrev pub invariant-loop-place : goal.invariant-loop-place
invariant-loop-place g l = HasDone g.H.IntakeHost (All (DraftsRemarks l.folder)) l.fn.host l.host
