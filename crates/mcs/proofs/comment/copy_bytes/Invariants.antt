use Rattle.std.proofs.Common.{◌≡◌, ◌++◌, length}
use Rattle.rec80.specs.Cursors.{text_of}
use Rattle.mcs.proofs.comment.copy_bytes.Given as goal

abbrev pub invariant-loop-byte : goal.invariant-loop-byte
invariant-loop-byte l = l.bytes.items ++ text_of l.left ≡ text_of l.text

abbrev pub decreases-loop-byte : goal.decreases-loop-byte
decreases-loop-byte l = length (text_of l.left)
