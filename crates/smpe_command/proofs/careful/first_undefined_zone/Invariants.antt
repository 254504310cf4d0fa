use Rattle.std.proofs.Common.{All, take}
use Rattle.smpe_command.specs.Careful.{IsDefined}
use Rattle.smpe_command.proofs.SetZones.{named}
use Rattle.smpe_command.proofs.careful.first_undefined_zone.Given as goal

abbrev pub invariant-loop-command : goal.invariant-loop-command
invariant-loop-command l = All (IsDefined l.names) (named (take l.command-index l.commands))
