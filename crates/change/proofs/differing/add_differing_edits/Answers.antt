use Rattle.std.proofs.Common.{◌≡◌, ◌∷◌, refl, sym, subst, ◌∙◌, arith}
use Rattle.std.specs.Prelude.{Contains}
use Rattle.std.specs.Vec.Iter.{into_iter_items}
use Rattle.std.proofs.lemmas.List.Elements.{Contains-append_right}
use Rattle.terms.proofs.ListMembers.{here}
use Rattle.terms.specs.Lookups.{element_cmp, element_key}
use Rattle.terms.specs.Rising.{Rises}
use Rattle.sorted.specs.Edits.{edit_key}
use Rattle.zones_maps.specs.Differing.{HasEditedElements}
use Rattle.change.proofs.ElementEdits.{AreDone, done_none, done_next, done_all, entries_stay}
use Rattle.change.proofs.Yielded.{one_more, one_less, all_yielded}
use Rattle.change.proofs.differing.add_differing_edits.Goals as goal

pub loop-edit-init : goal.loop-edit-init
loop-edit-init c = record {
  all = refl;
  entries = refl;
  done = done_none c.args.zone.now (into_iter_items c.into_iter-edit-iterator.result) c.args.zone_edits.now.elements
      c.requires.empty;
  count = search;
}

pub loop-edit-preserved : goal.loop-edit-preserved
loop-edit-preserved c =
    let at = c.loop-edit in
    let x = c.in-Some.edit in
    let steps : into_iter_items at.edit-iterator ≡ x ∷ into_iter_items c.next.new.self = c.in-Some.ensures.steps.0 in
    let all = at.invariant.all in
    record {
      all = one_more at.yielded _ _ _ all at.invariant.count x _ steps;
      entries = entries_stay c.args.zone.now x at.zone_edits c.add_differing_edit.new.zone_edits
          c.in_ok-add_differing_edit.ensures
          ∙ at.invariant.entries;
      done = done_next c.args.zone.now (into_iter_items c.into_iter-edit-iterator.result)
          (subst (Rises element_cmp (edit_key element_key)) (sym c.into_iter-edit-iterator.ensures.into_iter_gives.0)
          c.requires.rising)
          at.yielded x at.zone_edits c.add_differing_edit.new.zone_edits
          (subst (λ es. Contains es x) all (Contains-append_right at.yielded (into_iter_items at.edit-iterator) x
          (subst (λ es. Contains es x) (sym steps) (here x _))))
          at.invariant.done c.in_ok-add_differing_edit.ensures;
      count = let gone = c.in-Some.ensures.steps.1 in
          one_less at.yielded _ _ _ all at.invariant.count x _ steps _ (omega (arith, gone));
    }

pub returns : goal.returns
returns c =
    let at = c.loop-edit in
    let edits = into_iter_items c.into_iter-edit-iterator.result in
    let yielded : at.yielded ≡ edits =
    all_yielded at.yielded _ _ _ at.invariant.all at.invariant.count c.in-None.ensures.steps.0 in
    subst (λ es. HasEditedElements c.args.zone.now es c.args.zone_edits.now at.zone_edits)
    c.into_iter-edit-iterator.ensures.into_iter_gives.0
    (done_all c.args.zone.now edits c.args.zone_edits.now at.zone_edits at.invariant.entries
    (subst (λ es. AreDone c.args.zone.now edits es at.zone_edits.elements) yielded at.invariant.done))
