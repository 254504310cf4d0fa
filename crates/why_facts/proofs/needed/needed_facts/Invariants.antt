use Rattle.std.proofs.Common.{◌≡◌, map, take}
use Rattle.std.specs.List.{flat_map}
use Rattle.report.specs.Facts.{NeededFact}
use Rattle.why_facts.specs.Needed.{needing}
use Rattle.report.specs.FactViews.{fact_view}
use Rattle.why_facts.proofs.needed.needed_facts.Given as goal

abbrev pub invariant-loop-pair : goal.invariant-loop-pair
invariant-loop-pair l = l.found.items ≡ flat_map (needing l.id) (take l.pair-index l.pairs)

abbrev pub invariant-loop-by : goal.invariant-loop-by
invariant-loop-by l = map fact_view l.facts.items ≡ map NeededFact (take l.by-index l.by-items)
