use Rattle.std.proofs.Common.{length}
use Rattle.rec80.specs.Cursors.{text_of}
use Rattle.rec80.proofs.Listing.{GoesOver}
use Rattle.rec80.proofs.lists.split_at_paren.Given as goal

abbrev pub invariant-loop-byte : goal.invariant-loop-byte
invariant-loop-byte l = GoesOver (text_of l.inside) (text_of l.at) l.len

abbrev pub decreases-loop-byte : goal.decreases-loop-byte
decreases-loop-byte l = length (text_of l.at)
