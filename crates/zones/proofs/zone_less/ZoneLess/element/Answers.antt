use Rattle.std.proofs.Common.{◌∙◌, true, false, sym, ap}
use Rattle.terms.specs.Types.{Element}
use Rattle.sysmods.specs.Choices.{choice}
use Rattle.zones.specs.Gone.{is_cut}
use Rattle.zones.proofs.Lookups.{element_of_none, element_of_some}
use Rattle.zones.proofs.zone_less.ZoneLess.element.Goals as goal

pub returns-in_err-element : goal.returns-in_err-element
returns-in_err-element c =
    let l = c.args.self.now in
    rw c.from_residual.ensures (sym (element_of_none l.vers.now.global.now (choice l.vers.now) l.dels.now l.zone.now
    c.in_err-element.ensures.form c.args.elem_type c.args.name c.in_err-element.ensures.found))

pub returns-then-deletes : goal.returns-then-deletes
returns-then-deletes c =
    let l = c.args.self.now in
    sym (element_of_some l.vers.now.global.now (choice l.vers.now) l.dels.now l.zone.now c.in_ok-element.ensures.form
    c.args.elem_type c.args.name c.in_ok-element.element.now true c.in_ok-element.ensures.found
    (sym c.if-deletes.true ∙ c.deletes.ensures ∙ ap (λ (e : Element). is_cut l e.fmid) c.element-2.view_is))

pub returns : goal.returns
returns c =
    let l = c.args.self.now in
    sym (element_of_some l.vers.now.global.now (choice l.vers.now) l.dels.now l.zone.now c.in_ok-element.ensures.form
    c.args.elem_type c.args.name c.in_ok-element.element.now false c.in_ok-element.ensures.found
    (sym c.if-deletes.false ∙ c.deletes.ensures ∙ ap (λ (e : Element). is_cut l e.fmid) c.element-2.view_is))
