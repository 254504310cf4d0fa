use Rattle.std.proofs.Common.{None, Some, refl, subst}
use Rattle.terms.specs.Types.{Change}
use Rattle.terms.specs.Lookups.{element_of}
use Rattle.report.specs.Facts.{HasElementLevel}
use Rattle.why_facts.specs.Asking.{setting_in, view_in}
use Rattle.report.specs.FactViews.{level_view}
use Rattle.why_facts.proofs.element_facts.element_of_change.Goals as goal

pub returns-in_ok-element_in_zone-in-Some : goal.returns-in_ok-element_in_zone-in-Some
returns-in_ok-element_in_zone-in-Some c =
    let s = setting_in c.args.asking.now in
    let x = c.args.asking.now.id in
    let view = view_in c.args.asking.now in
    let f = level_view c.in_ok-element_in_zone-in-Some.field-0 in
    subst (λ (h : Change). HasElementLevel s x (element_of view h.elem_type h.name) (Some f)) c.change.view_is
    (subst (λ o. HasElementLevel s x o (Some f)) c.in-Some.ensures (f, refl, c.in_ok-element_in_zone-in-Some.ensures))

pub returns-in-None : goal.returns-in-None
returns-in-None c =
    let s = setting_in c.args.asking.now in
    let x = c.args.asking.now.id in
    let view = view_in c.args.asking.now in
    subst (λ (h : Change). HasElementLevel s x (element_of view h.elem_type h.name) None) c.change.view_is
    (subst (λ o. HasElementLevel s x o None) c.in-None.ensures refl)
