use Rattle.std.specs.List.{All}
use Rattle.intake_command.specs.Acts.{IsQuiet}
use Rattle.intake_command.specs.Done.{HasDone}
use Rattle.intake_command.proofs.members.read_members.Given as goal

abbrev pub invariant-loop-element : goal.invariant-loop-element
invariant-loop-element g l = HasDone g.H.IntakeHost (All IsQuiet) l.fn.host l.host
