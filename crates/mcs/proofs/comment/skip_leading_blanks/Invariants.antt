use Rattle.std.proofs.Common.{length}
use Rattle.mcs.specs.Trimmed.{SkipsSomeBlanks}
use Rattle.mcs.proofs.comment.skip_leading_blanks.Given as goal

abbrev pub invariant-loop-first : goal.invariant-loop-first
invariant-loop-first l = SkipsSomeBlanks l.text l.rest

abbrev pub decreases-loop-first : goal.decreases-loop-first
decreases-loop-first l = length l.rest
