use Rattle.std.proofs.Common.{map}
use Rattle.std.proofs.lemmas.Result.{IfOk-weaker}
use Rattle.report.specs.Facts.{SupersederFact, standing_facts}
use Rattle.report.specs.FactViews.{fact_view}
use Rattle.why_facts.proofs.Together.{seen_behind}
use Rattle.why_facts.proofs.facts.standing_and_superseder_facts.Goals as goal

pub returns : goal.returns
returns c =
    let found = c.in_ok-superseders.ensures in
    IfOk-weaker c.join_facts.result _ _
    (λ all is. (
      found.0,
      found.1,
      seen_behind fact_view all.items c.in_ok-facts.facts.items
          c.in_ok-superseders.superseders.items
          (standing_facts c.args.lookups.now.global.now c.args.lookups.now.zone.now c.args.asking.now.id)
          (map SupersederFact found.0) is c.in_ok-facts.ensures found.2,
    ))
    c.join_facts.ensures
