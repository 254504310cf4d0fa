use Rattle.std.proofs.Common.{◌-◌, ◌^◌}
use Rattle.sysmods.specs.Seen.{IsSearch}
use Rattle.sysmods.proofs.search.search_reachable.Given as goal

abbrev pub invariant-loop-i : goal.invariant-loop-i
invariant-loop-i g l = IsSearch (g.N.IdGraph.named l.graph) l.fn.x l.seen.keys l.i

abbrev pub decreases-loop-i : goal.decreases-loop-i
decreases-loop-i g l = 2 ^ 63 - l.i
