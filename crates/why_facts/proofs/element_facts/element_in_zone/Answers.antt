use Rattle.std.proofs.Common.{◌∙◌, ap, arith, subst}
use Rattle.std.specs.Str.{bytes_eq}
use Rattle.terms.specs.Beside.{Beside}
use Rattle.terms.proofs.BesideLists.{beside_next, beside_through}
use Rattle.terms.specs.Types.{Element}
use Rattle.terms.specs.Tests.{owner_of}
use Rattle.sysmods.specs.Choices.{choice}
use Rattle.why_facts.specs.Asking.{setting_in}
use Rattle.why_facts.specs.Makers.{IsMaker}
use Rattle.why_facts.proofs.Made.{is_found}
use Rattle.why_facts.proofs.element_facts.element_in_zone.Goals as goal

pub loop-umid-preserved : goal.loop-umid-preserved
loop-umid-preserved c =
    let asking = c.args.asking.now in
    beside_next (λ n z m. IsMaker (choice asking.scope.vers.now) asking.id z m) c.as_slice-umid-items.result.now
    c.loop-umid.umids.items c.push.new.self.items c.loop-umid.umid-index c.umid-item.result c.in_ok-maker.field-0
    (omega arith) c.umid-item.is c.in_ok-push.ensures.items c.in_ok-maker.ensures c.loop-umid.invariant

pub returns : goal.returns
returns c =
    let asking = c.args.asking.now in
    is_found (setting_in asking) asking.id c.args.element.now (record {
      fmid = c.element.inside.fmid;
      owned = c.eq.result;
      rmid = c.in_ok-rmid.rmid;
      umids = c.loop-umid.umids;
    })
    (ap (λ (e : Element). e.fmid) c.element.view_is)
    (c.eq.ensures ∙ ap (λ o. bytes_eq c.element.inside.fmid o) c.owner.ensures
    ∙ ap (λ (e : Element). bytes_eq e.fmid (owner_of (setting_in asking) asking.id)) c.element.view_is)
    (subst (λ z. IsMaker (choice asking.scope.vers.now) asking.id z c.in_ok-rmid.rmid)
    (ap (λ (e : Element). e.rmid) c.element.view_is) c.in_ok-rmid.ensures)
    (subst (λ l. Beside (λ n z m. IsMaker (choice asking.scope.vers.now) asking.id z m) l c.loop-umid.umids.items)
    (c.as_slice-umid-items.ensures.items ∙ ap (λ (e : Element). e.umids) c.element.view_is)
    (beside_through (λ n z m. IsMaker (choice asking.scope.vers.now) asking.id z m) c.as_slice-umid-items.result.now
    c.loop-umid.umids.items c.loop-umid.umid-index (omega arith) c.loop-umid.invariant))
