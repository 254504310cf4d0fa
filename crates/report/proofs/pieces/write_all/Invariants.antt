use Rattle.std.proofs.Common.{◌≡◌, ◌<◌, ◌≤◌, length, false}
use Rattle.report.proofs.Sending.{Sending}
use Rattle.report.proofs.pieces.write_all.Given as goal

abbrev pub invariant-loop-rest : goal.invariant-loop-rest
invariant-loop-rest g l = record {
  sending : Sending (g.W.Sink.taken l.initial.w) (g.W.Sink.has_failed l.initial.w) (g.W.Sink.taken l.w)
      (g.W.Sink.has_failed l.w) l.piece l.rest;
  sound : length l.rest < length l.piece → g.W.Sink.has_failed l.w ≡ false;
  within : length l.rest ≤ length l.piece;
}

abbrev pub decreases-loop-rest : goal.decreases-loop-rest
decreases-loop-rest g l = length l.rest
