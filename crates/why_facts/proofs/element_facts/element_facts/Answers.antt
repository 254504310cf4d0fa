use Rattle.std.proofs.Common.{◌≡◌, ◌∙◌, arith, ap, ap₂, length}
use Rattle.terms.proofs.BesideLists.{beside_next, beside_through}
use Rattle.terms.specs.Lookups.{changes_of}
use Rattle.zones.specs.Scopes.{global_of}
use Rattle.report.specs.Facts.{ElementFact, IsElementFact}
use Rattle.terms.specs.Types.{Change}
use Rattle.terms.specs.Changes.{is_replacement}
use Rattle.terms.specs.Tests.{has_candidate_base}
use Rattle.std.specs.Prelude.{option_map}
use Rattle.why_facts.specs.Asking.{setting_in}
use Rattle.report.specs.FactViews.{level_view, fact_view}
use Rattle.why_facts.proofs.element_facts.element_facts.Goals as goal

pub loop-change-preserved : goal.loop-change-preserved
loop-change-preserved c =
    let asking = c.args.asking.now in
    let f = option_map level_view c.in_ok-found.found in
    let items : c.changes_of-change-items.result.now ≡ changes_of (global_of asking.scope) asking.id =
    c.changes_of-change-items.ensures ∙ ap (λ g. changes_of g asking.id) c.global.ensures in
    beside_next (λ n h fact. IsElementFact (setting_in asking) asking.id h (fact_view fact))
    (changes_of (global_of asking.scope) asking.id) c.loop-change.facts.items c.push.new.self.items
    c.loop-change.change-index c.change-item.result _ (omega (arith, ap length items))
    (rw items at c.change-item.is) c.in_ok-push.ensures.items (
      f,
      ap₂ (λ b brought. ElementFact c.change.inside.elem_type c.change.inside.name b brought f)
          c.is_replacement.ensures c.is_brought.ensures
          ∙ ap (λ (h : Change). ElementFact h.elem_type h.name (is_replacement c.change-item.result.action)
          (has_candidate_base (setting_in asking) asking.id h.elem_type h.name) f) c.change.view_is,
      c.in_ok-found.ensures,
    ) c.loop-change.invariant

pub returns : goal.returns
returns c =
    let asking = c.args.asking.now in
    let items : c.changes_of-change-items.result.now ≡ changes_of (global_of asking.scope) asking.id =
    c.changes_of-change-items.ensures ∙ ap (λ g. changes_of g asking.id) c.global.ensures in
    beside_through (λ n h fact. IsElementFact (setting_in asking) asking.id h (fact_view fact))
    (changes_of (global_of asking.scope) asking.id) c.loop-change.facts.items c.loop-change.change-index
    (omega (arith, ap length items)) c.loop-change.invariant
