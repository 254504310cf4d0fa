use Rattle.std.proofs.Common.{◌≡◌}
use Rattle.stream.specs.Kept.{AreKnown}
use Rattle.stream.proofs.keeping.all_suspects.Given as goal

abbrev pub invariant-loop-id : goal.invariant-loop-id
invariant-loop-id l = record {
  known : AreKnown l.suspects;
  vers : l.suspects.vers.now ≡ l.vers;
}
