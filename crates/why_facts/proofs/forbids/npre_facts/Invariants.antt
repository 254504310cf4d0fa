use Rattle.std.proofs.Common.{◌≡◌, ◌++◌, map, take}
use Rattle.terms.specs.Lookups.{is_applied}
use Rattle.report.specs.Facts.{NpreFact, ForbiddenFact}
use Rattle.why_facts.specs.Asking.{view_in}
use Rattle.report.specs.FactViews.{fact_view}
use Rattle.why_facts.proofs.forbids.npre_facts.Given as goal

abbrev pub invariant-loop-id : goal.invariant-loop-id
invariant-loop-id l =
    map fact_view l.facts.items ≡ map (λ y. NpreFact y (is_applied (view_in l.asking) y)) (take l.id-index l.named)

abbrev pub invariant-loop-by : goal.invariant-loop-by
invariant-loop-by l =
    map fact_view l.facts.items ≡ map fact_view l.initial.facts.items ++ map ForbiddenFact (take l.by-index l.by-items)
