-- The order of pairs of ids.
use Rattle.std.proofs.Common.{◌≡◌, ◌≢◌, ◌∙◌, Bool, true, List, sym, ap, ap₂, subst, true≢false, Contains, IsTrue}
use Rattle.std.proofs.Common.{filter, get_or}
use Rattle.std.specs.Prelude.{◌↔◌, ◌&&◌, AllPairs, IsPermutation}
use Rattle.std.specs.declared.cmp.Ordering.{Ordering}
use Rattle.std.specs.Ordering.{is_eq, is_lt, nat_cmp, ordering_then}
use Rattle.std.specs.Cmp.{IsTotalOrder, IsEquivalence}
use Rattle.std.specs.Cmp.Lexicographic.{slice_cmp, texts_ties}
use Rattle.std.specs.List.{dedup}
use Rattle.std.specs.List.Sorted.{IsSorted}
use Rattle.std.specs.Str.{bytes_eq}
use Rattle.std.proofs.lemmas.Bool.{and_parts}
use Rattle.std.proofs.lemmas.Cmp.{then_total, on_total, and_equiv, on_equiv, nat_list_cmp_total, nat_list_eq_equiv}
use Rattle.std.proofs.lemmas.Cmp.{tied_itself}
use Rattle.std.proofs.lemmas.List.Kept.{IsStrictlySortedBy-dedup, Contains-dedup, Contains-from_dedup}
use Rattle.std.proofs.lemmas.List.Sorted.{Contains-permutation, IsPermutation-sym}
use Rattle.terms.proofs.ListMembers.{in_filter, filter_in}
use Rattle.terms.proofs.Orderings.{is_eq_then}
use Rattle.terms.proofs.TextOrder.{same_from}
use Rattle.terms.proofs.RisingLists.{Rises_from_sorted}
use Rattle.terms.specs.Types.{Id}
use Rattle.undo.specs.Pairs.{is_own, AreOwn}

abbrev pub pair_cmp : Id × Id → Id × Id → Ordering
pair_cmp a b = ordering_then (slice_cmp nat_cmp a.0 b.0) (slice_cmp nat_cmp a.1 b.1)

abbrev pub pair_eq : Id × Id → Id × Id → Bool
pair_eq a b = bytes_eq a.0 b.0 && bytes_eq a.1 b.1

pairs_total : IsTotalOrder pair_cmp
pairs_total = then_total (on_total (λ (p : Id × Id). p.0) nat_list_cmp_total) (on_total (λ (p : Id × Id). p.1)
    nat_list_cmp_total)

pairs_equiv : IsEquivalence pair_eq
pairs_equiv = and_equiv (on_equiv (λ (p : Id × Id). p.0) nat_list_eq_equiv) (on_equiv (λ (p : Id × Id). p.1)
    nat_list_eq_equiv)

pairs_ties : (a b : Id × Id) → pair_eq a b ≡ is_eq (pair_cmp a b)
pairs_ties a b =
    ap₂ (λ s t. s && t) (texts_ties a.0 b.0) (texts_ties a.1 b.1)
    ∙ sym (is_eq_then (slice_cmp nat_cmp a.0 b.0) (slice_cmp nat_cmp a.1 b.1))

pairs_same : (a b : Id × Id) → pair_eq a b ≡ true → a ≡ b
pairs_same a b on =
    let parts = and_parts (bytes_eq a.0 b.0) (bytes_eq a.1 b.1) on in
    ap₂ (λ s t. (s, t)) (same_from a.0 b.0 parts.0) (same_from a.1 b.1 parts.1)

-- what is kept of the pairs, sorted and without doubles
module _ (ids : List Id) (pairs kept sorted : List (Id × Id)) (are_kept : kept ≡ filter (is_own ids) pairs)
    (moved : IsPermutation kept sorted) (in_order : IsSorted pair_cmp sorted) where
  from_kept : (p : Id × Id) → Contains kept p ↔ (Contains pairs p × IsTrue (is_own ids p))
  from_kept p = (
    λ h. filter_in (is_own ids) pairs p (subst (λ l. Contains l p) are_kept h),
    λ h. subst (λ l. Contains l p) (sym are_kept) (in_filter (is_own ids) pairs p h.0 h.1),
  )

  apart : AllPairs (λ p q. p ≢ q) (dedup pair_eq sorted)
  apart i j d before below same =
      let rises = Rises_from_sorted pair_cmp (dedup pair_eq sorted)
      (IsStrictlySortedBy-dedup pairs_total pairs_ties sorted in_order) in
      let first = get_or (dedup pair_eq sorted) i d in
      let tied = ap is_lt (ap (pair_cmp first) (sym same) ∙ tied_itself pairs_total first) in
      true≢false (sym (rises i j d before below) ∙ tied)

  pub own_are : AreOwn ids pairs (dedup pair_eq sorted)
  own_are = record {
    members = λ p. (
      λ h. (from_kept p).0 (Contains-permutation sorted kept p (IsPermutation-sym kept sorted moved)
          (Contains-from_dedup pair_eq sorted p h)),
      λ h. Contains-dedup pairs_equiv pairs_same sorted p
          (Contains-permutation kept sorted p moved ((from_kept p).1 h)),
    );
    once = apart;
  }
