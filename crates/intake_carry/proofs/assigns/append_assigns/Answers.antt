use Rattle.std.proofs.Common.{◌≡◌, ◌∷◌, [], ◌++◌, map, length, sym, ap, ◌∙◌, append_assoc, append-nil, arith}
use Rattle.std.specs.Vec.Iter.{into_iter_items}
use Rattle.std.proofs.lemmas.List.{map-append, nil_from_length}
use Rattle.mcs.specs.declared.file.Item.TheVariants as item
use Rattle.intake_carry.proofs.assigns.append_assigns.Goals as goal

pub loop-assign-preserved : goal.loop-assign-preserved
loop-assign-preserved c =
    let at = c.loop-assign in
    let x = c.in-Some.assign in
    let steps : into_iter_items at.assign-iterator ≡ x ∷ into_iter_items c.next.new.self =
    c.in-Some.ensures.steps.0 in (
      append_assoc at.yielded (x ∷ []) _ ∙ rw (← steps) at.invariant.0,
      c.in_ok-push.ensures.items ∙ ap (λ xs. xs ++ item.Assign x ∷ []) at.invariant.1
          ∙ append_assoc c.args.items.now.items (map item.Assign at.yielded) (item.Assign x ∷ [])
          ∙ ap (λ xs. c.args.items.now.items ++ xs) (sym (map-append item.Assign at.yielded (x ∷ []))),
      let was = at.invariant.2 in
          let gone = c.in-Some.ensures.steps.1 in
          let short = ap length steps in
          omega arith,
    )

pub returns : goal.returns
returns c =
    let at = c.loop-assign in
    let empty : into_iter_items at.assign-iterator ≡ [] = nil_from_length _
    (sym at.invariant.2 ∙ c.in-None.ensures.steps.0) in
    let all = sym (append-nil at.yielded) ∙ rw empty at at.invariant.0
    ∙ c.into_iter-assign-iterator.ensures.into_iter_gives.0 in
    at.invariant.1 ∙ ap (λ assigns. c.args.items.now.items ++ map item.Assign assigns) all
