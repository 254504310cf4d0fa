use Rattle.std.proofs.Common.{length}
use Rattle.mcs.specs.Trimmed.{DropsBlanks}
use Rattle.mcs.proofs.comment.drop_trailing_blanks.Given as goal

abbrev pub invariant-loop-last : goal.invariant-loop-last
invariant-loop-last l = DropsBlanks l.text l.rest

abbrev pub decreases-loop-last : goal.decreases-loop-last
decreases-loop-last l = length l.rest
