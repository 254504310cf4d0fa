use Rattle.std.proofs.Common.{◌≡◌, ◌∙◌, ap, sym, arith}
use Rattle.std.specs.Prelude.{if◌then◌else◌}
use Rattle.std.proofs.lemmas.Bool.{eqb-true}
use Rattle.std.proofs.lemmas.List.{nil_from_length}
use Rattle.sorted.specs.declared.edits.Edit.TheVariants.{Remove}
use Rattle.sorted.specs.Edits.{edit_key}
use Rattle.terms.specs.Types.{Element}
use Rattle.terms.specs.Lookups.{element_cmp, element_key}
use Rattle.terms.specs.Rising.{with_item}
use Rattle.terms.proofs.ElementOrder.{cmp_keys}
use Rattle.terms.proofs.Placing.{with_item_agree}
use Rattle.zones.specs.Gone.{is_cut}
use Rattle.change.specs.Puts.{less_element}
use Rattle.zones_maps.specs.Differing.{ElementEdit}
use Rattle.change.proofs.Removed.{removed_none, removed_next}
use Rattle.change.proofs.installing.remove_deleted_elements.Goals.{then-deletes+in_ok-put, else-deletes}
use Rattle.change.proofs.installing.remove_deleted_elements.Goals as goal

pub returns-then-is_empty : goal.returns-then-is_empty
returns-then-is_empty c =
    removed_none c.args.deleting.now (nil_from_length _ (eqb-true _ _ (sym c.if-is_empty.ensures))) c.args.edits.now
    c.args.deleting.now.left.zone.now.elements

pub loop-element-preserved : goal.loop-element-preserved
loop-element-preserved c =
    let d = c.args.deleting.now in
    let old = c.loop-element.edits in
    let with_edit = λ (v : ElementEdit). with_item element_cmp (edit_key element_key) old v in
    let element = c.element.inside in
    let removed = with_edit (Remove (element_key c.element-item.result)) in
    let cut = ap (λ (e : Element). is_cut d.left e.fmid) c.element.view_is in
    let one : c.if-deletes.edits ≡ less_element d old c.element-item.result = elim c.if-deletes.branch [
      | then-deletes+in_ok-put w ↦ w.edits-is ∙ w.in_ok-put.ensures.ok
          ∙ with_item_agree _ element_cmp cmp_keys (edit_key element_key) old
          (Remove (element.elem_type, element.name))
          ∙ ap (λ (e : Element). with_edit (Remove (element_key e))) c.element.view_is
          ∙ ap (λ b. if b then removed else old) (w.if-deletes.ensures ∙ cut)
      | else-deletes w ↦ w.edits-is ∙ ap (λ b. if b then removed else old) (w.if-deletes.ensures ∙ cut)
    ] in
    one ∙ ap (λ v. less_element d v c.element-item.result) c.loop-element.invariant
    ∙ removed_next d c.args.edits.now c.elements-element-items.result.now c.loop-element.element-index
    c.element-item.result (omega arith) c.element-item.is
