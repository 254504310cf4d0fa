use Rattle.std.proofs.Common.{◌≡◌, ◌∷◌, [], ◌++◌, map, length, sym, ap, ◌∙◌, append_assoc, append-nil, arith}
use Rattle.std.specs.Vec.Iter.{into_iter_items}
use Rattle.std.proofs.lemmas.List.{map-append, nil_from_length}
use Rattle.store_zones.specs.declared.zone_rows.ZoneRow.{ZoneRow}
use Rattle.store_zones.proofs.zone_rows.items_of_rows.Goals as goal

item_of : {X : Type 0} → ZoneRow X → X
item_of r = r.item

pub loop-row-preserved : goal.loop-row-preserved
unfolding item_of
loop-row-preserved g c =
    let at = c.loop-row in
    let x = c.in-Some.row in
    let steps : into_iter_items at.row-iterator ≡ x ∷ into_iter_items c.next.new.self = c.in-Some.ensures.steps.0 in (
      append_assoc at.yielded (x ∷ []) _ ∙ rw (← steps) at.invariant.0,
      c.in_ok-push.ensures.items ∙ ap (λ xs. xs ++ x.item ∷ []) at.invariant.1
          ∙ sym (map-append item_of at.yielded (x ∷ [])),
      let was = at.invariant.2 in
          let gone = c.in-Some.ensures.steps.1 in
          let short = ap length steps in
          omega arith,
    )

pub returns : goal.returns
unfolding item_of
returns g c =
    let at = c.loop-row in
    let empty : into_iter_items at.row-iterator ≡ [] = nil_from_length _
    (sym at.invariant.2 ∙ c.in-None.ensures.steps.0) in
    let all = sym (append-nil at.yielded) ∙ rw empty at at.invariant.0
    ∙ c.into_iter-row-iterator.ensures.into_iter_gives.0 in
    at.invariant.1 ∙ ap (map item_of) all
