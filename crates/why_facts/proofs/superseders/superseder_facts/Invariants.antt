use Rattle.std.proofs.Common.{◌≡◌, map, take}
use Rattle.report.specs.Facts.{SupersederFact}
use Rattle.report.specs.FactViews.{fact_view}
use Rattle.why_facts.proofs.superseders.superseder_facts.Given as goal

abbrev pub invariant-loop-id : goal.invariant-loop-id
invariant-loop-id l = map fact_view l.facts.items ≡ map SupersederFact (take l.id-index l.id-items)
