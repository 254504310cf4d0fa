use Rattle.std.proofs.Common.{◌≡◌, take, map, length}
use Rattle.solve.specs.NeedView.{numbered}
use Rattle.solve.proofs.Leads.{AreLeadsBy}
use Rattle.solve.proofs.causes.predecessors.Given as goal

abbrev pub invariant-loop-need : goal.invariant-loop-need
invariant-loop-need l = record {
  size : length l.leads.items ≡ l.system.size;
  exact : AreLeadsBy l.system l.kept (map numbered (take l.need-index l.need-items)) l.leads.items;
}
