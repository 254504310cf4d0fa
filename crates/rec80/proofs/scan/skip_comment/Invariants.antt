use Rattle.std.proofs.Common.{◌≡◌, length}
use Rattle.terms.specs.Statement.{behind_close}
use Rattle.rec80.specs.Cursors.{rest_of, IsAhead}
use Rattle.rec80.proofs.scan.skip_comment.Given as goal

abbrev pub invariant-loop-byte : goal.invariant-loop-byte
invariant-loop-byte l = record {
  same : behind_close (rest_of l.at) ≡ behind_close (rest_of l.inside);
  ahead : IsAhead l.inside l.at;
}

abbrev pub decreases-loop-byte : goal.decreases-loop-byte
decreases-loop-byte l = length (rest_of l.at)
