use Rattle.std.proofs.Common.{◌∷◌, take}
use Rattle.std.specs.List.{flat_map}
use Rattle.report.specs.Paged.{Paged}
use Rattle.report.proofs.line_words.print_sources.Given as goal

abbrev pub invariant-loop-source : goal.invariant-loop-source
invariant-loop-source g l =
    Paged g.W.Sink l.initial.page l.page (flat_map (λ source. 44 ∷ source) (take l.source-index l.rest))
