use Rattle.std.proofs.Common.{◌≡◌, ◌++◌, take}
use Rattle.std.specs.List.{flat_map}
use Rattle.why_facts.specs.FactText.{fact_text}
use Rattle.report.specs.FactViews.{fact_view}
use Rattle.why_facts.proofs.text.append_facts.Given as goal

abbrev pub invariant-loop-fact : goal.invariant-loop-fact
invariant-loop-fact l =
    l.text.items ≡ l.initial.text.items ++ flat_map (λ f. fact_text (fact_view f)) (take l.fact-index l.facts)
