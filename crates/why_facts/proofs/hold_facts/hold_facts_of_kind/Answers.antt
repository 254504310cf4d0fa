use Rattle.std.proofs.Common.{◌≡◌, ◌∙◌, [], ap, refl, subst, sym}
use Rattle.std.specs.Prelude.{option_map}
use Rattle.terms.specs.Lookups.{holds_of}
use Rattle.zones.specs.Scopes.{global_of}
use Rattle.report.specs.Facts.{IsHoldFact}
use Rattle.why_facts.specs.Asking.{setting_in}
use Rattle.report.specs.FactViews.{resolution_view, fact_view}
use Rattle.why_facts.proofs.Besides.{BesideFront, front_nil, front_next, front_all}
use Rattle.why_facts.proofs.hold_facts.hold_facts_of_kind.Goals as goal

pub loop-hold-init : goal.loop-hold-init
loop-hold-init c =
    let asking = c.args.asking.now in
    let all = holds_of (global_of asking.scope) c.args.kind asking.id in
    let same : c.into_iter-hold-iterator.result ≡ all = c.into_iter-hold-iterator.ensures.into_iter_gives
    ∙ c.holds_of-hold-items.ensures.rest ∙ ap (λ g. holds_of g c.args.kind asking.id) c.global.ensures in
    rw c.new-facts.ensures.items
    (subst (λ rest. BesideFront (λ h fact. IsHoldFact (setting_in asking) asking.id h (fact_view fact)) all rest [])
    (sym same) (front_nil (λ h fact. IsHoldFact (setting_in asking) asking.id h (fact_view fact)) all))

pub loop-hold-preserved : goal.loop-hold-preserved
loop-hold-preserved c =
    let asking = c.args.asking.now in
    front_next (λ h fact. IsHoldFact (setting_in asking) asking.id h (fact_view fact))
    (holds_of (global_of asking.scope) c.args.kind asking.id) c.loop-hold.hold-iterator c.next.new.self
    c.loop-hold.facts.items c.push.new.self.items c.in-Some.hold.now _ c.loop-hold.invariant
    c.in-Some.ensures.steps c.in_ok-push.ensures.items
    (option_map resolution_view c.in_ok-resolution.resolution, refl, c.in_ok-resolution.ensures)

pub returns : goal.returns
returns c =
    let asking = c.args.asking.now in
    front_all (λ h fact. IsHoldFact (setting_in asking) asking.id h (fact_view fact))
    (holds_of (global_of asking.scope) c.args.kind asking.id) c.loop-hold.hold-iterator c.loop-hold.facts.items
    c.loop-hold.invariant c.in-None.ensures.steps.0
