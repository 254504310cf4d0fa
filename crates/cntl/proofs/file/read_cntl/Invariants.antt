use Rattle.std.proofs.Common.{map, length}
use Rattle.terms.specs.Commands.{BeginsWithCommands}
use Rattle.cntl.specs.Views.{command_of}
use Rattle.cntl.proofs.file.read_cntl.Given as goal

abbrev pub invariant-loop-read : goal.invariant-loop-read
invariant-loop-read l = BeginsWithCommands 1 l.initial.left.rest.now (map command_of l.read.items) l.left.number
    l.left.rest.now

abbrev pub decreases-loop-read : goal.decreases-loop-read
decreases-loop-read l = length l.left.rest.now
