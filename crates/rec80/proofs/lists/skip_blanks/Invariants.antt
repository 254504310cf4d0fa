use Rattle.std.proofs.Common.{ℕ, List, length}
use Rattle.rec80.specs.Cursors.{text_of}
use Rattle.rec80.specs.Lists.{SkipsBlanks}
use Rattle.rec80.proofs.lists.skip_blanks.Given as goal

abbrev pub invariant-loop-byte : goal.invariant-loop-byte
invariant-loop-byte l = (after : List ℕ) → SkipsBlanks (text_of l.at) after → SkipsBlanks (text_of l.text) after

abbrev pub decreases-loop-byte : goal.decreases-loop-byte
decreases-loop-byte l = length (text_of l.at)
