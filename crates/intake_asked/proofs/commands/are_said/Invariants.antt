use Rattle.std.proofs.Common.{drop, map}
use Rattle.cntl.specs.Views.{command_of}
use Rattle.intake_asked.specs.Said.{AreSaid, AreSaidAfter}
use Rattle.intake_asked.proofs.commands.are_said.Given as goal

-- If what is left is said, all is.
abbrev pub invariant-loop-command : goal.invariant-loop-command
invariant-loop-command l = AreSaidAfter l.known l.received (drop l.command-index l.wide) (map command_of l.left)
    → AreSaid l.known l.wide (map command_of l.commands)
