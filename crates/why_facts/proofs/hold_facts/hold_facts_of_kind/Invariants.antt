use Rattle.terms.specs.Lookups.{holds_of}
use Rattle.zones.specs.Scopes.{global_of}
use Rattle.report.specs.Facts.{IsHoldFact}
use Rattle.why_facts.specs.Asking.{setting_in}
use Rattle.report.specs.FactViews.{fact_view}
use Rattle.why_facts.proofs.Besides.{BesideFront}
use Rattle.why_facts.proofs.hold_facts.hold_facts_of_kind.Given as goal

abbrev pub invariant-loop-hold : goal.invariant-loop-hold
invariant-loop-hold l =
    BesideFront (λ h fact. IsHoldFact (setting_in l.asking) l.asking.id h (fact_view fact))
    (holds_of (global_of l.asking.scope) l.fn.kind l.asking.id) l.hold-iterator l.facts.items
