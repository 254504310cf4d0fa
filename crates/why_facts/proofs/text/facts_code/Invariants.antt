use Rattle.std.proofs.Common.{◌≡◌, map, drop}
use Rattle.std.specs.Prelude.{max}
use Rattle.why_facts.specs.FactText.{facts_code}
use Rattle.report.specs.FactViews.{fact_view}
use Rattle.why_facts.proofs.text.facts_code.Given as goal

abbrev pub invariant-loop-fact : goal.invariant-loop-fact
invariant-loop-fact l =
    max l.code (facts_code (map fact_view (drop l.fact-index l.facts))) ≡ facts_code (map fact_view l.facts)
