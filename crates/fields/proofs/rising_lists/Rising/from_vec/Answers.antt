use Rattle.std.proofs.Common.{◌∙◌, sym}
use Rattle.std.proofs.lemmas.List.Filters.{dedup_is}
use Rattle.std.proofs.lemmas.List.Kept.{IsStrictlySortedBy-dedup, Contains-dedup, Contains-from_dedup}
use Rattle.std.proofs.lemmas.List.Sorted.{Contains-permutation, IsPermutation-sym}
use Rattle.terms.proofs.Orderings.{Equal_from_is_eq}
use Rattle.terms.proofs.RisingLists.{Rises_from_sorted}
use Rattle.fields.proofs.rising_lists.Rising.from_vec.Goals as goal

pub invariant_of-result : goal.invariant_of-result
invariant_of-result g c =
    let sorted = c.sort_unstable.new.self.items in
    rw (dedup_is g.T.PartialEq.eq sorted c.dedup.new.self.items c.dedup.ensures.filtered)
    (Rises_from_sorted g.T.Ord.cmp _ (IsStrictlySortedBy-dedup g.met.T.Ord.total g.met.T.Ord.matches_eq sorted
    c.sort_unstable.ensures.sorted))

pub returns-clause-rising : goal.returns-clause-rising
returns-clause-rising g c = invariant_of-result g c

pub returns-clause-members : goal.returns-clause-members
returns-clause-members g c =
    let eq = g.T.PartialEq.eq in
    let items = c.args.items.items in
    let sorted = c.sort_unstable.new.self.items in
    let is = dedup_is eq sorted c.dedup.new.self.items c.dedup.ensures.filtered in
    let moved = c.sort_unstable.ensures.permutation in
    λ x. (
      λ h. Contains-permutation sorted items x (IsPermutation-sym items sorted moved)
          (Contains-from_dedup eq sorted x (rw is at h)),
      λ h. rw is (Contains-dedup g.met.T.Eq.laws (λ a b e. g.met.T.Field.exact a b
          (Equal_from_is_eq (g.T.Ord.cmp a b) (sym (g.met.T.Ord.matches_eq a b) ∙ e))) sorted x
          (Contains-permutation items sorted x moved h)),
    )
