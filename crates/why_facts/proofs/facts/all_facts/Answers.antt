use Rattle.std.proofs.Common.{◌∙◌, ◌++◌, [], ap, map, refl, sym, subst₂}
use Rattle.std.proofs.lemmas.Result.{IfOk-weaker}
use Rattle.terms.specs.Types.{Zone}
use Rattle.terms.specs.Choice.{counting}
use Rattle.why_facts.specs.Asking.{setting_in}
use Rattle.report.specs.Facts.{SupersederFact, standing_facts, ver_facts}
use Rattle.why_facts.specs.Needed.{AreNeeded}
use Rattle.report.specs.FactViews.{fact_view}
use Rattle.why_facts.proofs.NeededPairs.{all_needed}
use Rattle.why_facts.proofs.Together.{are_facts}
use Rattle.why_facts.proofs.facts.all_facts.Goals as goal

pub returns : goal.returns
returns c =
    let g = c.args.lookups.now.global.now in
    let zone = c.args.lookups.now.zone.now in
    let s = setting_in c.args.asking.now in
    let x = c.args.asking.now.id in
    let changes = c.in_ok-changes.changes.items in
    let needed = c.in_ok-needed.needed.items in
    let own = c.in_ok-own.ensures in
    let more = map SupersederFact own.0 in
    IfOk-weaker c.join_facts-3.result _ _
    (λ all is. are_facts s x all.items c.in_ok-own.own.items c.in_ok-asked.asked.items changes needed
    (is ∙ ap (λ l. l ++ needed) (c.in_ok-up_to_changes.ensures ∙ ap (λ l. l ++ changes) c.in_ok-up_to_holds.ensures)) (
      own.0,
      own.1,
      own.2
          ∙ ap (λ g. standing_facts g zone x ++ more ++ ver_facts s x) (sym c.requires.global)
          ∙ ap (λ (zone : Zone). standing_facts s.global zone x ++ more ++ ver_facts s x) (sym c.requires.zone),
    )
    c.in_ok-asked.ensures
    c.in_ok-changes.ensures
    (subst₂ (λ g zone. AreNeeded g zone x (map fact_view needed)) (sym c.requires.global) (sym c.requires.zone)
    (c.in_ok-needed.ensures g zone
    (all_needed g (counting g zone []) zone c.as_slice.result.now c.args.lookups.now.zone_is refl
    (c.as_slice.ensures.value ∙ c.args.lookups.now.needed_is))))) c.join_facts-3.ensures
