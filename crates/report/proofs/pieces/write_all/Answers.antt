use Rattle.std.proofs.Common.{take, arith}
use Rattle.std.proofs.lemmas.Grind.{common_steps}
use Rattle.report.proofs.Sending.{sending_more}
use Rattle.report.proofs.pieces.write_all.Goals as goal

pub loop-rest-preserved : goal.loop-rest-preserved
loop-rest-preserved g c = record {
  sending = sending_more (g.W.Sink.taken c.args.w.now) (g.W.Sink.has_failed c.args.w.now) (g.W.Sink.taken c.loop-rest.w)
      (g.W.Sink.has_failed c.loop-rest.w)
      (g.W.Sink.taken c.write.new.self) (g.W.Sink.has_failed c.write.new.self) c.args.piece.now c.loop-rest.rest.now
      (take c.in_ok-n.n c.loop-rest.rest.now) _
      c.loop-rest.invariant.sending (grind (arith, common_steps)) c.in_ok-n.ensures.before c.in_ok-n.ensures.after
      c.in_ok-n.ensures.bytes;
  sound = λ _. c.in_ok-n.ensures.after;
  within = grind (arith, common_steps, c.loop-rest.invariant.within);
}
