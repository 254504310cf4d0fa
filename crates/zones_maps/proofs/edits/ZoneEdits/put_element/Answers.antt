use Rattle.std.proofs.Common.{◌∙◌, ap, sym, subst, List}
use Rattle.terms.specs.declared.kinds.ElemType.{ElemType}
use Rattle.sorted.specs.declared.edits.Edit.{Edit}
use Rattle.sorted.specs.declared.edits.Edit.TheVariants.{Put}
use Rattle.terms.specs.Types.{Text, Element}
use Rattle.terms.specs.Lookups.{element_cmp, element_key}
use Rattle.zones_maps.specs.Delta.{ZoneEdits}
use Rattle.sorted.specs.Edits.{edit_key}
use Rattle.terms.specs.Rising.{Rises}
use Rattle.terms.proofs.Placing.{with_item_agree, Rises_with_item}
use Rattle.terms.proofs.ElementOrder.{cmp_keys, element_cmp_total}
use Rattle.zones_maps.proofs.edits.ZoneEdits.put_element.Goals as goal

pub returns-clause-ok : goal.returns-clause-ok
returns-clause-ok c =
    let with_elements : List (Edit Element (ElemType × Text))
    → ZoneEdits = λ es. record { entries = c.self.inside.entries; elements = es } in
    rw (← c.self.view_is) (ap with_elements (c.in_ok-put.ensures.ok
    ∙ with_item_agree _ element_cmp cmp_keys (edit_key element_key) c.self.inside.elements (Put c.args.element)))

pub invariant_of-self-2 : goal.invariant_of-self-2
invariant_of-self-2 c =
    record {
      entries = c.self.invariant.entries;
      held = c.self.invariant.held;
      waived = c.self.invariant.waived;
      elements = subst (Rises element_cmp (edit_key element_key)) (sym (c.in_ok-put.ensures.ok
          ∙ with_item_agree _ element_cmp cmp_keys (edit_key element_key) c.self.inside.elements
          (Put c.args.element)))
          (Rises_with_item element_cmp_total (edit_key element_key) c.self.inside.elements
          (Put c.args.element) c.self.invariant.elements);
    }
