use Rattle.std.proofs.Common.{take}
use Rattle.terms.specs.Beside.{Beside}
use Rattle.terms.specs.Lookups.{changes_of}
use Rattle.zones.specs.Scopes.{global_of}
use Rattle.report.specs.Facts.{IsElementFact}
use Rattle.why_facts.specs.Asking.{setting_in}
use Rattle.report.specs.FactViews.{fact_view}
use Rattle.why_facts.proofs.element_facts.element_facts.Given as goal

abbrev pub invariant-loop-change : goal.invariant-loop-change
invariant-loop-change l =
    Beside (λ n h fact. IsElementFact (setting_in l.asking) l.asking.id h (fact_view fact))
    (take l.change-index (changes_of (global_of l.asking.scope) l.asking.id)) l.facts.items
