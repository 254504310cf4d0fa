use Rattle.std.proofs.Common.{length}
use Rattle.terms.specs.CommandCuts.{BeginsNoGap}
use Rattle.rec80.specs.Cursors.{rest_of, IsAhead}
use Rattle.rec80.specs.Walks.{Walks}
use Rattle.rec80.proofs.walk.first_stop.Given as goal

abbrev pub invariant-loop-next : goal.invariant-loop-next
invariant-loop-next l = record {
  walks : Walks (rest_of l.from) (rest_of l.at);
  no_gap : BeginsNoGap (rest_of l.at);
  ahead : IsAhead l.from l.at;
}

abbrev pub decreases-loop-next : goal.decreases-loop-next
decreases-loop-next l = length (rest_of l.at)
