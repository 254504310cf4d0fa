use Rattle.std.proofs.Common.{◌≡◌, map, drop}
use Rattle.why_verdict.specs.Verdict.{first_answer}
use Rattle.report.specs.FactViews.{fact_view}
use Rattle.why_verdict.proofs.verdict.first_resolution.Given as goal

abbrev pub invariant-loop-fact : goal.invariant-loop-fact
invariant-loop-fact l =
    first_answer l.need.kind l.need.id (map fact_view (drop l.fact-index l.facts))
    ≡ first_answer l.need.kind l.need.id (map fact_view l.facts)
