use Rattle.rec80.specs.Cursors.{rest_of}
use Rattle.rec80.proofs.Places.{ahead_trans}
use Rattle.rec80.proofs.Walking.{skips_more, gap_shorter}
use Rattle.rec80.proofs.walk.skip_gaps.Goals as goal

pub loop-next-smaller : goal.loop-next-smaller
loop-next-smaller c = gap_shorter (rest_of c.loop-next.place) (rest_of c.in-Some.next) c.in-Some.ensures.gap

pub loop-next-preserved : goal.loop-next-preserved
loop-next-preserved c = record {
  skips = λ after s. c.loop-next.invariant.skips after (skips_more _ _ after c.in-Some.ensures.gap s);
  ahead = ahead_trans _ _ _ c.loop-next.invariant.ahead c.in-Some.ensures.ahead;
}
