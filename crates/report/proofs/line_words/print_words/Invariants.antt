use Rattle.std.proofs.Common.{◌∷◌, take}
use Rattle.std.specs.List.{flat_map}
use Rattle.report.specs.Paged.{Paged}
use Rattle.report.specs.WordTexts.{word_text}
use Rattle.report.proofs.line_words.print_words.Given as goal

abbrev pub invariant-loop-word : goal.invariant-loop-word
invariant-loop-word g l =
    Paged g.W.Sink l.initial.page l.page (flat_map (λ w. 32 ∷ word_text w) (take l.word-index l.words))
