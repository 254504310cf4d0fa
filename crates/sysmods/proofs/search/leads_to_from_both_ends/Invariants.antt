use Rattle.std.proofs.Common.{◌-◌, ◌+◌, ◌^◌}
use Rattle.sysmods.specs.Seen.{IsSearch}
use Rattle.sysmods.proofs.search.leads_to_from_both_ends.Given as goal

abbrev pub invariant-loop-i : goal.invariant-loop-i
invariant-loop-i g l = record {
  ahead : IsSearch (g.F.IdGraph.named l.graph) l.fn.x l.ahead.keys l.i;
  behind : IsSearch (g.B.IdGraph.named l.reversed) l.fn.z l.behind.keys l.j;
}

abbrev pub decreases-loop-i : goal.decreases-loop-i
decreases-loop-i g l = 2 ^ 64 - (l.i + l.j)
