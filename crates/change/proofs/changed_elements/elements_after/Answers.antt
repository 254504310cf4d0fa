use Rattle.std.proofs.Common.{◌≡◌, ◌∙◌, ◌⊎◌, inl, inr, All, AllPairs, Any, IsSome, IsTrue, sym, ap, refl, subst, filter}
use Rattle.std.proofs.Common.{IsPermutation}
use Rattle.std.specs.Prelude.{option_copied}
use Rattle.std.proofs.lemmas.List.Sorted.{All-permutation}
use Rattle.sysmods.specs.Choices.{choice}
use Rattle.terms.specs.Changes.{has_replacement}
use Rattle.terms.specs.Deleted.{zone_less}
use Rattle.terms.specs.Install.{HasElementAfter, Installation}
use Rattle.terms.specs.Lookups.{element_of, has_change}
use Rattle.terms.specs.Over.{IsOver}
use Rattle.change.specs.Folding.{AreChangers}
use Rattle.zones.specs.Grouping.{AreByElement}
use Rattle.change.proofs.AllElements.{all_change, all_ordered, all_based, first_listed, first_some, made_none}
use Rattle.change.proofs.AllElements.{made_next, made_all, one_after, key_of_found, permuted_any, permuted_changers}
use Rattle.change.proofs.changed_elements.elements_after.Goals.{After-deref, After-deref-in-loop-key}
use Rattle.change.proofs.changed_elements.elements_after.Goals as goal

-- the lists are by the elements of the global zone
by_element : (c : After-deref) → AreByElement c.args.overs.now.global.now c.args.effective.now
    c.in_ok-by_element.by_element
by_element c =
    subst (λ g. AreByElement g c.args.effective.now c.in_ok-by_element.by_element)
    (c.global.ensures ∙ ap (λ v. v.global.now) c.vers-vers.ensures) c.in_ok-by_element.ensures

-- the item has all that change its element
changers_are : (c : After-deref) → c.deref.result.now
    ≡ filter (λ x. has_change c.args.overs.now.global.now x c.in-Some.key.now.0 c.in-Some.key.now.1)
    c.args.effective.now
changers_are c =
    c.deref.ensures.value
    ∙ first_listed c.args.overs.now.global.now (choice c.args.overs.now) c.args.zone.now c.args.deletions.now
    c.args.effective.now c.into_iter-key-iterator.result c.loop-key.key-iterator c.next.new.self
    (c.in-Some.key.now, c.in-Some.changers.now) c.loop-key.elements.items c.in-Some.ensures.steps
    c.loop-key.invariant.made c.in_ok-by_element.by_element c.into_iter-key-iterator.ensures.into_iter_gives.0
    (by_element c)

-- the base is what is left of the zone's element
base_is : (c : After-deref) → option_copied c.element-base.result
    ≡ element_of (zone_less c.args.overs.now.global.now (choice c.args.overs.now) c.args.deletions.now c.args.zone.now)
    c.in-Some.key.now.0 c.in-Some.key.now.1
base_is c =
    let k = c.in-Some.key.now in
    c.element-base.ensures
    ∙ ap (λ v. element_of (zone_less v.global.now (choice v) c.args.deletions.now c.args.zone.now) k.0 k.1)
    c.vers-vers.ensures

-- over is as it was
vers_are : (c : After-deref-in-loop-key) → c.vers-vers.result.now ≡ c.args.overs.now
vers_are c = c.vers-vers.ensures

-- those in order are the changers
in_order_are : (c : After-deref-in-loop-key)
    → IsPermutation c.deref.result.now c.deref-in-loop-key.result.now
in_order_are c =
    subst (IsPermutation c.deref.result.now) (sym c.deref-in-loop-key.ensures.value) c.in_ok-ordered.ensures.same

pub sort_by_over-requires : goal.sort_by_over-requires
sort_by_over-requires c =
    let k = c.in-Some.key.now in
    subst (λ v. AllPairs (λ x y. IsOver (choice v) x y ⊎ IsOver (choice v) y x) c.deref.result.now)
    (sym c.loop-key.invariant.overs)
    (all_ordered c.args.overs.now.global.now (choice c.args.overs.now) k.0 k.1 c.args.effective.now c.deref.result.now
    (changers_are c) c.requires.order)

pub element_after-requires-clause-base : goal.element_after-requires-clause-base
unfolding zone_less
element_after-requires-clause-base c =
    let k = c.in-Some.key.now in
    key_of_found (zone_less c.args.overs.now.global.now (choice c.args.overs.now) c.args.deletions.now
    c.args.zone.now) k.0 k.1 (option_copied c.element-base.result)
    (base_is (goal.at.element_after-requires-clause-base c).After-deref)

pub element_after-requires-clause-changers : goal.element_after-requires-clause-changers
element_after-requires-clause-changers c =
    let k = c.in-Some.key.now in
    let g = c.args.overs.now.global.now in
    subst (λ v. All (λ x. IsTrue (has_change v.global.now x k.0 k.1)) c.deref-in-loop-key.result.now)
    (sym (vers_are c))
    (All-permutation (λ x. IsTrue (has_change g x k.0 k.1)) c.deref.result.now c.deref-in-loop-key.result.now
    (in_order_are c)
    (all_change g (choice c.args.overs.now) k.0 k.1 c.args.effective.now c.deref.result.now
    (changers_are (goal.at.element_after-requires-clause-changers c).After-deref)))

pub element_after-requires-clause-order : goal.element_after-requires-clause-order
element_after-requires-clause-order c =
    let ordered = subst (λ v. AllPairs (λ x y. IsOver (choice v) y x) c.in_ok-ordered.ordered.items)
    c.loop-key.invariant.overs c.in_ok-ordered.ensures.order in
    subst (λ v. AllPairs (λ x y. IsOver (choice v) y x) c.deref-in-loop-key.result.now) (sym (vers_are c))
    (subst (λ l. AllPairs (λ x y. IsOver (choice c.args.overs.now) y x) l)
    (sym c.deref-in-loop-key.ensures.value) ordered)

pub element_after-requires-clause-some : goal.element_after-requires-clause-some
element_after-requires-clause-some c =
    let g = c.args.overs.now.global.now in
    let chosen = choice c.args.overs.now in
    let k = c.in-Some.key.now in
    let at = (goal.at.element_after-requires-clause-some c).After-deref in
    subst (λ v. IsSome (option_copied c.element-base.result)
    ⊎ Any (λ x. IsTrue (has_replacement v.global.now x k.0 k.1)) c.deref-in-loop-key.result.now)
    (sym (vers_are c))
    (elim (all_based g chosen k.0 k.1 c.args.effective.now c.deref.result.now (changers_are at)
    (element_of (zone_less g chosen c.args.deletions.now c.args.zone.now) k.0 k.1)
    (λ nil. first_some g chosen c.args.zone.now c.args.deletions.now c.args.effective.now
    c.into_iter-key-iterator.result c.loop-key.key-iterator c.next.new.self (k, c.in-Some.changers.now)
    c.loop-key.elements.items c.in-Some.ensures.steps c.loop-key.invariant.made c.in_ok-by_element.by_element
    c.into_iter-key-iterator.ensures.into_iter_gives.0 (by_element at)
    (sym c.deref.ensures.value ∙ nil))
    (c.requires.some k.0 k.1)) [
      | inl is ↦ inl (subst (λ o. IsSome o) (sym (base_is at)) is)
      | inr any ↦ inr (permuted_any (λ x. IsTrue (has_replacement g x k.0 k.1)) c.deref.result.now
          c.deref-in-loop-key.result.now (in_order_are c) any)
    ])

pub loop-key-init : goal.loop-key-init
loop-key-init c = record {
  overs = refl;
  made = made_none c.args.overs.now.global.now (choice c.args.overs.now) c.args.zone.now c.args.deletions.now
      c.args.effective.now c.in_ok-by_element.by_element c.into_iter-key-iterator.result c.new-elements.result.items
      c.into_iter-key-iterator.ensures.into_iter_gives.0 c.new-elements.ensures.items
      c.into_iter-key-iterator.ensures.into_iter_gives.6;
}

pub loop-key-preserved : goal.loop-key-preserved
loop-key-preserved c =
    let g = c.args.overs.now.global.now in
    let chosen = choice c.args.overs.now in
    let zone = c.args.zone.now in
    let dels = c.args.deletions.now in
    let ids = c.args.effective.now in
    let k = c.in-Some.key.now in
    let e = c.in_ok-changed.changed in
    let base = option_copied c.element-base.result in
    let at = (goal.at.loop-key-preserved c).After-deref in
    let then = (goal.at.loop-key-preserved c).After-deref-in-loop-key in
    record {
      overs = c.in_ok-ordered.ensures.overs ∙ c.loop-key.invariant.overs;
      made = rw c.in_ok-push.ensures.items
          (made_next g chosen zone dels ids c.into_iter-key-iterator.result c.loop-key.key-iterator
          c.next.new.self (k, c.in-Some.changers.now) c.loop-key.elements.items c.in-Some.ensures.steps
          c.loop-key.invariant.made e c.in_ok-changed.ensures.key
          (one_after g chosen zone dels ids k c.deref.result.now e (changers_are at) c.in_ok-changed.ensures.key
          (λ i are. subst (λ v. (j : Installation) → AreChangers j v.global.now (choice v) k.0 k.1 base
          c.deref-in-loop-key.result.now → HasElementAfter j k.0 k.1 e) (vers_are then)
          c.in_ok-changed.ensures.element i
          (permuted_changers i _ _ _ _ _ _ _ (in_order_are then)
          (subst (λ b. AreChangers i g chosen k.0 k.1 b c.deref.result.now) (sym (base_is at)) are)))));
    }

pub returns : goal.returns
returns c =
    made_all c.args.overs.now.global.now (choice c.args.overs.now) c.args.zone.now c.args.deletions.now
    c.args.effective.now c.in_ok-by_element.by_element c.into_iter-key-iterator.result
    c.loop-key.key-iterator c.loop-key.elements.items c.into_iter-key-iterator.ensures.into_iter_gives.0
    c.in-None.ensures.steps.0
    (subst (λ g. AreByElement g c.args.effective.now c.in_ok-by_element.by_element)
    (c.global.ensures ∙ ap (λ v. v.global.now) c.vers-vers.ensures) c.in_ok-by_element.ensures)
    c.into_iter-key-iterator.ensures.into_iter_gives.5
    c.into_iter-key-iterator.ensures.into_iter_gives.6 c.loop-key.invariant.made
