use Rattle.std.proofs.Common.{◌≡◌, ◌++◌, take}
use Rattle.std.specs.List.{flat_map}
use Rattle.why_verdict.specs.Verdict.{reason}
use Rattle.report.specs.FactViews.{fact_view}
use Rattle.why_verdict.proofs.reasons.append_reasons.Given as goal

abbrev pub invariant-loop-fact : goal.invariant-loop-fact
invariant-loop-fact l =
    l.text.items ≡ l.initial.text.items ++ flat_map (λ f. reason l.bypass l.test (fact_view f)) (take l.fact-index
    l.facts)
