use Rattle.rec80.specs.Cursors.{rest_of}
use Rattle.rec80.specs.Pieces.{piece_of}
use Rattle.rec80.proofs.Places.{ahead_trans}
use Rattle.rec80.proofs.Walking.{walks_more, walk_shorter}
use Rattle.rec80.proofs.walk.first_stop.Goals as goal

pub loop-next-smaller : goal.loop-next-smaller
loop-next-smaller c = walk_shorter (rest_of c.loop-next.at) (rest_of c.in-Ok.next)
    (rest_of c.skip_gaps-at-in-Ok.result) (piece_of c.in-Ok.field-0-0) c.in-Ok.ensures.piece
    c.skip_gaps-at-in-Ok.ensures.gaps

pub loop-next-preserved : goal.loop-next-preserved
loop-next-preserved c = record {
  walks = walks_more _ _ (rest_of c.in-Ok.next) _ (piece_of c.in-Ok.field-0-0) c.loop-next.invariant.walks
      c.in-Ok.ensures.piece c.skip_gaps-at-in-Ok.ensures.gaps;
  no_gap = c.skip_gaps-at-in-Ok.ensures.gaps.no_gap;
  ahead = ahead_trans _ _ _ c.loop-next.invariant.ahead (ahead_trans _ _ _ c.in-Ok.ensures.ahead
      c.skip_gaps-at-in-Ok.ensures.ahead);
}
