use Rattle.std.proofs.Common.{List, length}
use Rattle.std.specs.Prelude.{All}
use Rattle.terms.specs.Records.{IsRecord}
use Rattle.terms.specs.Statements.{Statement}
use Rattle.terms.specs.Ptfin.{nothing, BeginsWithStatements}
use Rattle.mcs.specs.Files.{so_far}
use Rattle.mcs.proofs.ptfin.read_ptfin.Given as goal

abbrev pub invariant-loop-group : goal.invariant-loop-group
invariant-loop-group l = (ss : List Statement)
    × BeginsWithStatements nothing l.initial.left.number l.initial.left.rest.now ss (so_far l.made) l.left.number
    l.left.rest.now × (All IsRecord l.initial.left.rest.now → All IsRecord l.left.rest.now)

abbrev pub decreases-loop-group : goal.decreases-loop-group
decreases-loop-group l = length l.left.rest.now
