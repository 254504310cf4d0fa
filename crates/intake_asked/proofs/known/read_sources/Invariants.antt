use Rattle.std.proofs.Common.{◌≡◌, map, take}
use Rattle.std.specs.List.{All}
use Rattle.terms.specs.Forms.{IsSource}
use Rattle.intake_asked.proofs.known.read_sources.Given as goal

abbrev pub invariant-loop-word : goal.invariant-loop-word
invariant-loop-word l =
    (l.sources.items ≡ map (λ word. word.now) (take l.word-index l.words)) × All IsSource l.sources.items
