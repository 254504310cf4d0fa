use Rattle.std.proofs.Common.{List, ◌≤◌, ◌<◌, ◌-◌, ◌+◌, ◌∙◌, All, AllPairs, IsPermutation, drop, get_or, length, subst}
use Rattle.std.proofs.Common.{subst₂, sym, take}
use Rattle.sysmods.specs.Choices.{choice}
use Rattle.terms.specs.Types.{Id}
use Rattle.terms.specs.Over.{IsOver}
use Rattle.change.proofs.Ordered.{ordered_more, permuted_more}
use Rattle.change.proofs.ordering.sort_by_over.Goals as goal

pub loop-id-preserved : goal.loop-id-preserved
loop-id-preserved c =
    let over = IsOver (choice c.args.overs.now) in
    let ids = c.args.ids.now in
    let k = c.loop-id.id-index in
    let x = c.id-item.result in
    let xs = c.loop-id.ordered.items in
    let p = c.in_ok-place.place in
    let below = c.loop-id-test.true in
    let same = c.loop-id.invariant.same in
    let placed = c.in_ok-place.ensures in
    let known = c.loop-id.invariant.overs in
    let listed = c.deref.ensures.value in
    let inserted = sym {A = List Id} c.in_ok-insert.ensures.items in
    record {
      overs = placed.overs ∙ known;
      same = subst (IsPermutation (take (k + 1) ids)) inserted (permuted_more ids k x xs p below c.id-item.is same);
      order = subst (AllPairs (λ y z. over z y)) inserted
          (ordered_more (choice c.args.overs.now) ids k x xs p c.requires below c.id-item.is same
          c.loop-id.invariant.order
          (subst (λ l. p ≤ length l) listed placed.within)
          (subst₂ (λ v l. 0 < p → IsOver (choice v) x (get_or l (p - 1) x)) known listed placed.front)
          (subst₂ (λ v l. All (λ y. ¬ IsOver (choice v) x y) (drop p l)) known listed placed.back));
    }

pub find_place-requires : goal.find_place-requires
find_place-requires c =
    subst₂ (λ v l. AllPairs (λ x y. IsOver (choice v) y x) l) (sym c.loop-id.invariant.overs)
    (sym c.deref.ensures.value) c.loop-id.invariant.order
