use Rattle.std.proofs.Common.{◌≡◌, ◌++◌, map, take}
use Rattle.std.specs.List.{flat_map}
use Rattle.why_verdict.specs.Verdict.{supply_told}
use Rattle.report.specs.FactViews.{fact_view}
use Rattle.report.specs.Views.{line_view}
use Rattle.why_verdict.proofs.besides.append_suppliers_of_facts.Given as goal

abbrev pub invariant-loop-fact : goal.invariant-loop-fact
invariant-loop-fact l =
    l.text.items ≡ l.initial.text.items ++ flat_map (λ f. supply_told (map line_view l.lines) (fact_view f)) (take
    l.fact-index l.facts)
