use Rattle.std.proofs.Common.{◌≡◌, ◌∷◌, ◌++◌, All, [], length, refl, sym, ap, ◌∙◌, subst, append_assoc, arith, rules}
use Rattle.std.specs.Vec.Iter.{into_iter_items}
use Rattle.std.proofs.lemmas.List.{map-append}
use Rattle.machine.specs.Runs.{Runs}
use Rattle.machine.specs.Receiving.{TakesHoldItem}
use Rattle.smpe_global.specs.Items.{IsOfHoldFile}
use Rattle.mcs.specs.HoldItems.{item_of, items}
use Rattle.smpe_global.specs.Taken.{IsTaken}
use Rattle.smpe_global.proofs.Items.{none_taken, more_taken, next_item}
use Rattle.smpe_global.proofs.holddata.receive_hold_items.Goals as goal

pub loop-item-init : goal.loop-item-init
loop-item-init c = (refl, none_taken TakesHoldItem c.args.global.now c.args.change.now, search rules)

pub receive_hold_item-requires : goal.receive_hold_item-requires
receive_hold_item-requires c =
    let at = c.loop-item in
    let x = c.in-Some.item in
    let rest = into_iter_items c.next.new.self in
    let steps : into_iter_items at.item-iterator ≡ x ∷ rest = c.in-Some.ensures.steps.0 in
    let all : into_iter_items c.into_iter-item-iterator.result ≡ c.args.hold_items.items = search rules in
    let whole : at.yielded ++ x ∷ rest ≡ c.args.hold_items.items =
    ap (λ xs. at.yielded ++ xs) (sym steps) ∙ at.invariant.0 ∙ all in
    next_item item_of IsOfHoldFile at.yielded rest x (subst (λ xs. All IsOfHoldFile (items xs)) (sym whole) c.requires)

pub loop-item-preserved : goal.loop-item-preserved
loop-item-preserved c =
    let at = c.loop-item in
    let x = c.in-Some.item in
    let takes = TakesHoldItem in
    let old = c.args.global.now in
    let now = c.receive_hold_item.new in
    let steps : into_iter_items at.item-iterator ≡ x ∷ into_iter_items c.next.new.self = c.in-Some.ensures.steps.0 in (
      append_assoc at.yielded (x ∷ []) _ ∙ rw (← steps) at.invariant.0,
      subst (λ its. IsTaken (Runs takes old its) old now.global c.args.change.now now.change)
          (sym (map-append item_of at.yielded (x ∷ [])))
          (more_taken takes old at.global now.global (items at.yielded) (item_of x) c.args.change.now at.change
          now.change
          at.invariant.1 c.in_ok-receive_hold_item.ensures),
      let was = at.invariant.2 in
          let gone = c.in-Some.ensures.steps.1 in
          let short = ap length steps in
          omega arith,
    )
