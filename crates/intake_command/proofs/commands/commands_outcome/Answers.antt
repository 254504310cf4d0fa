use Rattle.std.proofs.Common.{ℕ, List, Option, Vec, subst}
use Rattle.std.specs.Prelude.{IfSome}
use Rattle.std.specs.declared.alloc.Global.{Global}
use Rattle.terms.specs.Types as terms
use Rattle.terms.specs.Commands.{IsCommandFile}
use Rattle.intake_asked.specs.Said.{AreSaid}
use Rattle.intake_asked.specs.declared.known.KnownSysmods.{KnownSysmods}
use Rattle.intake_asked.specs.declared.scan.WideCommand.{WideCommand}
use Rattle.intake_command.specs.Outcome.{IsSaidIfCarried, HasBytesIfCarried}
use Rattle.intake_command.specs.declared.commands.CommandsOutcome.{CommandsOutcome}
use Rattle.intake_command.specs.declared.commands.CommandsOutcome.TheVariants.{Carried, Refused}
use Rattle.intake_command.proofs.commands.commands_outcome.Goals as goal

-- what the bytes of a file say, the outcome with these bytes says
said_of : (known : KnownSysmods) (commands : List WideCommand) (bytes : Option (Vec ℕ Global))
    (outcome : CommandsOutcome) → IfSome bytes (λ b. (said : List terms.Command) × IsCommandFile b.items said
    × AreSaid known commands said) → HasBytesIfCarried bytes outcome → IsSaidIfCarried known outcome
said_of known commands bytes (Refused refusal) says has = tt
said_of known commands bytes (Carried made) says has =
    let given = subst (λ (o : Option (Vec ℕ Global)). IfSome o (λ b. (said : List terms.Command)
    × IsCommandFile b.items said × AreSaid known commands said)) has says in
    (commands, given.0, given.1, given.2)

pub returns : goal.returns
returns c =
    said_of c.args.known.now c.in_ok-wide.wide.commands.items c.in_ok-file.file.bytes _
    c.in_ok-file.ensures c.in_ok-outcome_of_file.ensures
