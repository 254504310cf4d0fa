use Rattle.std.proofs.Common.{◌≡◌, ◌∙◌, sym, ap, arith, rules, None, Some}
use Rattle.std.specs.Prelude.{option_map}
use Rattle.terms.specs.Types.{Element}
use Rattle.sysmods.specs.Choices.{choice}
use Rattle.smpe_verify.specs.declared.breach.Breach.TheVariants.{OfElement}
use Rattle.smpe_verify.specs.FirstBreach.{first_of, element_breach}
use Rattle.smpe_verify.proofs.FirstOf.{passes, stops, ends}
use Rattle.smpe_verify.proofs.closed.first_element_breach.Goals as goal

pub loop-element-preserved : goal.loop-element-preserved
loop-element-preserved c =
    let breach = element_breach c.args.vers.now.global.now (choice c.args.vers.now) c.args.zone.now in
    let e = c.element-item.result in
    let none : c.element_fault.result ≡ None = search rules in
    passes breach c.elements-element-items.result.now c.loop-element.element-index e (omega arith) c.element-item.is
    (ap (option_map (OfElement e.elem_type e.name)) (sym c.element_fault.ensures ∙ none)) c.loop-element.invariant

pub returns-in-Some : goal.returns-in-Some
returns-in-Some c =
    let breach = element_breach c.args.vers.now.global.now (choice c.args.vers.now) c.args.zone.now in
    let e = c.element-item.result in
    let fault = c.in-Some.fault in
    let some : c.element_fault.result ≡ Some fault = search rules in
    ap (λ (e : Element). Some (OfElement e.elem_type e.name fault)) c.element.view_is
    ∙ stops breach c.elements-element-items.result.now c.loop-element.element-index e
    (OfElement e.elem_type e.name fault) (omega arith) c.element-item.is
    (ap (option_map (OfElement e.elem_type e.name)) (sym c.element_fault.ensures ∙ some)) c.loop-element.invariant
    ∙ ap (first_of breach) c.elements-element-items.ensures

pub returns : goal.returns
returns c =
    let breach = element_breach c.args.vers.now.global.now (choice c.args.vers.now) c.args.zone.now in
    ends breach c.elements-element-items.result.now c.loop-element.element-index (omega arith) c.loop-element.invariant
    ∙ ap (first_of breach) c.elements-element-items.ensures
