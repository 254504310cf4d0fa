-- What becomes of a command file.
use Rattle.std.specs.Prelude.{◌≡◌, ℕ, List, Option, Some, Vec}
use Rattle.std.specs.declared.alloc.Global.{Global}
use Rattle.terms.specs.Types as terms
use Rattle.terms.specs.Commands.{IsCommandFile}
use Rattle.intake_asked.specs.Said.{AreSaid}
use Rattle.intake_asked.specs.declared.known.KnownSysmods.{KnownSysmods}
use Rattle.intake_asked.specs.declared.scan.WideCommand.{WideCommand}
use Rattle.intake_command.specs.declared.commands.CommandsOutcome.{CommandsOutcome}
use Rattle.intake_command.specs.declared.commands.CommandsOutcome.TheVariants.{Carried, Refused}

-- If it is carried, its commands say just what the shop's commands ask for.
abbrev pub IsSaidIfCarried : KnownSysmods → CommandsOutcome → Type 0
IsSaidIfCarried known (Refused refusal) = Unit {0}
IsSaidIfCarried known (Carried made) = (commands : List WideCommand) × (said : List terms.Command)
    × IsCommandFile made.bytes.items said × AreSaid known commands said

-- If it is carried, it has these bytes.
abbrev pub HasBytesIfCarried : Option (Vec ℕ Global) → CommandsOutcome → Type 0
HasBytesIfCarried bytes (Refused refusal) = Unit {0}
HasBytesIfCarried bytes (Carried made) = bytes ≡ Some made.bytes
