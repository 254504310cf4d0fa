use Rattle.std.proofs.Common.{◌∙◌}
use Rattle.stream.proofs.keeping.all_suspects.Goals as goal

pub loop-id-init : goal.loop-id-init
loop-id-init c = record { known = c.new-suspects.ensures.known; vers = c.new-suspects.ensures.vers }

pub loop-id-preserved : goal.loop-id-preserved
loop-id-preserved c = record {
  known = c.in_ok-compare.ensures.known;
  vers = c.in_ok-compare.ensures.vers ∙ c.loop-id.invariant.vers;
}
