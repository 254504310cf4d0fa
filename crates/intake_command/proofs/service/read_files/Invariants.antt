use Rattle.std.proofs.Common.{map, take}
use Rattle.std.specs.String.{string_bytes}
use Rattle.intake_command.specs.Done.{HasDone}
use Rattle.intake_command.specs.Serving.{AreRead}
use Rattle.intake_command.proofs.service.read_files.Given as goal

abbrev pub invariant-loop-name : goal.invariant-loop-name
invariant-loop-name g l =
    HasDone g.H.IntakeHost (AreRead (map string_bytes (take l.name-index l.asked.files.items)) l.stated) l.fn.host l.host
