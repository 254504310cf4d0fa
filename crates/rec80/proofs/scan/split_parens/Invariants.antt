use Rattle.std.proofs.Common.{◌≡◌, ◌+◌, false, length}
use Rattle.terms.specs.Statement.{behind_list}
use Rattle.rec80.specs.Cursors.{rest_of, IsAhead}
use Rattle.rec80.proofs.scan.split_parens.Given as goal

abbrev pub invariant-loop-byte : goal.invariant-loop-byte
invariant-loop-byte l = record {
  same : behind_list l.inner (rest_of l.at) ≡ behind_list false (rest_of l.inside);
  count : l.len + length (rest_of l.at) ≡ length (rest_of l.inside);
  ahead : IsAhead l.inside l.at;
}

abbrev pub decreases-loop-byte : goal.decreases-loop-byte
decreases-loop-byte l = length (rest_of l.at)
