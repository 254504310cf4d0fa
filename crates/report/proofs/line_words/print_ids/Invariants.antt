use Rattle.std.proofs.Common.{◌∷◌, take}
use Rattle.std.specs.List.{flat_map}
use Rattle.report.specs.Paged.{Paged}
use Rattle.report.proofs.line_words.print_ids.Given as goal

abbrev pub invariant-loop-id : goal.invariant-loop-id
invariant-loop-id g l =
    Paged g.W.Sink l.initial.page l.page (flat_map (λ id. 44 ∷ id) (take l.id-index l.rest))
