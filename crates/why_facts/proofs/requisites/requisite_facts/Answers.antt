use Rattle.std.proofs.Common.{◌∙◌, arith, refl, subst}
use Rattle.terms.specs.Beside.{Beside}
use Rattle.terms.proofs.BesideLists.{beside_next, beside_through}
use Rattle.report.specs.Facts.{IsRequisiteFact}
use Rattle.why_facts.specs.Asking.{setting_in}
use Rattle.report.specs.FactViews.{resolution_view, fact_view}
use Rattle.why_facts.proofs.requisites.requisite_facts.Goals as goal

pub loop-requisite-preserved : goal.loop-requisite-preserved
loop-requisite-preserved c =
    beside_next
    (λ n r fact. IsRequisiteFact (setting_in c.args.asking.now) c.args.asking.now.id r (fact_view fact))
    c.as_slice-requisite-items.result.now c.loop-requisite.facts.items c.push.new.self.items
    c.loop-requisite.requisite-index
    c.requisite-item.result _ (omega arith) c.requisite-item.is c.in_ok-push.ensures.items
    (resolution_view c.in_ok-resolution.resolution, refl, c.in_ok-resolution.ensures) c.loop-requisite.invariant

pub returns : goal.returns
returns c =
    let a = c.args.asking.now in
    let found = c.in_ok-found.ensures in (
      found.0,
      found.1,
      subst (λ rs. Beside (λ n r fact. IsRequisiteFact (setting_in a) a.id r (fact_view fact)) rs
          c.loop-requisite.facts.items) (c.as_slice-requisite-items.ensures.value ∙ found.2)
          (beside_through (λ n r fact. IsRequisiteFact (setting_in a) a.id r (fact_view fact))
          c.as_slice-requisite-items.result.now
          c.loop-requisite.facts.items c.loop-requisite.requisite-index (omega arith) c.loop-requisite.invariant),
    )
