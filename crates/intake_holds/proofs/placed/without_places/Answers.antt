use Rattle.std.proofs.Common.{◌≡◌, ◌∷◌, [], ◌++◌, length, map, sym, ap, ◌∙◌, append_assoc, append-nil, arith}
use Rattle.std.specs.Vec.Iter.{into_iter_items}
use Rattle.std.proofs.lemmas.List.{map-append, nil_from_length}
use Rattle.mcs.specs.declared.hold_item.HoldItem.{HoldItem}
use Rattle.intake_holds.specs.declared.placed.PlacedItem.{PlacedItem}
use Rattle.intake_holds.proofs.placed.without_places.Goals as goal

item_of : PlacedItem → HoldItem
item_of p = p.item

pub loop-placed_item-preserved : goal.loop-placed_item-preserved
unfolding item_of
loop-placed_item-preserved c =
    let at = c.loop-placed_item in
    let x = c.in-Some.placed_item in
    let left = c.next.new.self in
    let steps : into_iter_items at.placed_item-iterator ≡ x ∷ into_iter_items left = c.in-Some.ensures.steps.0 in (
      append_assoc at.yielded (x ∷ []) _ ∙ rw (← steps) at.invariant.0,
      c.in_ok-push.ensures.items ∙ ap (λ xs. xs ++ x.item ∷ []) at.invariant.1
          ∙ sym (map-append item_of at.yielded (x ∷ [])),
      let was = at.invariant.2 in
          let gone = c.in-Some.ensures.steps.1 in
          let short = ap length steps in
          omega arith,
    )

pub returns : goal.returns
unfolding item_of
returns c =
    let at = c.loop-placed_item in
    let empty : into_iter_items at.placed_item-iterator ≡ [] = nil_from_length _
    (sym at.invariant.2 ∙ c.in-None.ensures.steps.0) in
    let all = sym (append-nil at.yielded) ∙ rw empty at at.invariant.0
    ∙ c.into_iter-placed_item-iterator.ensures.into_iter_gives.0 in
    at.invariant.1 ∙ ap (map item_of) all
