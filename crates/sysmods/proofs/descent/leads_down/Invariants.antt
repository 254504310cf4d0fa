use Rattle.std.proofs.Common.{◌≤◌}
use Rattle.sysmods.specs.Graphs.{IsSearchDown, list_at}
use Rattle.sysmods.proofs.descent.leads_down.Given as goal

abbrev pub invariant-loop-next : goal.invariant-loop-next
invariant-loop-next l = record {
  search : IsSearchDown (list_at l.successors) l.high l.next l.marks.items;
  within : l.next ≤ l.high;
}

abbrev pub decreases-loop-next : goal.decreases-loop-next
decreases-loop-next l = l.next
