use Rattle.std.proofs.Common.{length}
use Rattle.terms.specs.HoldFile.{BeginsWithItems}
use Rattle.mcs.specs.HoldItems.{items}
use Rattle.mcs.proofs.hold_file.read_hold.Given as goal

abbrev pub invariant-loop-group : goal.invariant-loop-group
invariant-loop-group l =
    BeginsWithItems l.initial.left.number l.initial.left.rest.now (items l.found.items) l.left.number l.left.rest.now

abbrev pub decreases-loop-group : goal.decreases-loop-group
decreases-loop-group l = length l.left.rest.now
