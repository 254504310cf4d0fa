use Rattle.std.proofs.Common.{◌≡◌, ◌∷◌, [], sym, ap, ◌∙◌, arith}
use Rattle.std.specs.Vec.Iter.{into_iter_items}
use Rattle.std.proofs.lemmas.List.Sums.{fold-append}
use Rattle.sorted.specs.declared.edits.Edit.TheVariants.{Put}
use Rattle.sorted.specs.Edits.{edit_key}
use Rattle.terms.specs.Lookups.{element_cmp, element_key}
use Rattle.terms.proofs.ElementOrder.{cmp_keys}
use Rattle.terms.proofs.Placing.{with_item_agree}
use Rattle.change.specs.Puts.{with_element, with_elements}
use Rattle.change.proofs.Yielded.{one_more, one_less, all_yielded}
use Rattle.change.proofs.installing.put_elements.Goals as goal

pub loop-element-preserved : goal.loop-element-preserved
loop-element-preserved c =
    let at = c.loop-element in
    let x = c.in-Some.element in
    let steps : into_iter_items at.element-iterator ≡ x ∷ into_iter_items c.next.new.self = c.in-Some.ensures.steps.0 in
    record {
      all = one_more at.yielded _ _ _ at.invariant.all at.invariant.count x _ steps;
      put = c.in_ok-put.ensures.ok
          ∙ with_item_agree _ element_cmp cmp_keys (edit_key element_key) at.edits (Put x)
          ∙ ap (λ d. with_element d x) at.invariant.put
          ∙ sym (fold-append with_element c.args.edits.now at.yielded (x ∷ []));
      count = let gone = c.in-Some.ensures.steps.1 in
          one_less at.yielded _ _ _ at.invariant.all at.invariant.count x _ steps _ (omega (arith, gone));
    }

pub returns : goal.returns
returns c =
    let at = c.loop-element in
    at.invariant.put ∙ ap (with_elements c.args.edits.now)
    (all_yielded at.yielded _ _ _ at.invariant.all at.invariant.count c.in-None.ensures.steps.0
    ∙ c.into_iter-element-iterator.ensures.into_iter_gives.0)
