use Rattle.std.proofs.Common.{take}
use Rattle.terms.specs.Beside.{Beside}
use Rattle.report.specs.Facts.{IsRequisiteFact}
use Rattle.why_facts.specs.Asking.{setting_in}
use Rattle.report.specs.FactViews.{fact_view}
use Rattle.why_facts.proofs.requisites.requisite_facts.Given as goal

abbrev pub invariant-loop-requisite : goal.invariant-loop-requisite
invariant-loop-requisite l =
    Beside (λ n r fact. IsRequisiteFact (setting_in l.asking) l.asking.id r (fact_view fact))
    (take l.requisite-index l.requisite-items) l.facts.items
