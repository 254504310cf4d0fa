use Rattle.std.proofs.Common.{map, take}
use Rattle.std.specs.String.{string_bytes}
use Rattle.intake_holds.specs.Become.{Become}
use Rattle.intake_command.specs.Done.{HasDone}
use Rattle.intake_command.specs.Serving.{IsKnownRead}
use Rattle.intake_command.proofs.commands.read_known_files.Given as goal

abbrev pub invariant-loop-name : goal.invariant-loop-name
invariant-loop-name g l =
    HasDone g.H.IntakeHost (Become IsKnownRead (map string_bytes (take l.name-index l.names)) l.files.items)
    l.fn.host l.host
