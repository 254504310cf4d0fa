use Rattle.std.proofs.Common.{ℕ, List, length}
use Rattle.rec80.specs.Cursors.{rest_of, IsAhead}
use Rattle.rec80.specs.Walks.{SkipsGaps}
use Rattle.rec80.proofs.walk.skip_gaps.Given as goal

abbrev pub invariant-loop-next : goal.invariant-loop-next
invariant-loop-next l = record {
  skips : (after : List ℕ) → SkipsGaps (rest_of l.place) after → SkipsGaps (rest_of l.at) after;
  ahead : IsAhead l.at l.place;
}

abbrev pub decreases-loop-next : goal.decreases-loop-next
decreases-loop-next l = length (rest_of l.place)
