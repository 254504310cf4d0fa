use Rattle.std.proofs.Common.{replicate}
use Rattle.report.specs.Paged.{Paged}
use Rattle.report.proofs.line_words.print_word.Given as goal

abbrev pub invariant-loop-place : goal.invariant-loop-place
invariant-loop-place g l = Paged g.W.Sink l.initial.page l.page (replicate l._place 32)
