-- The pairs of ids and the places of who stands for them.
use Rattle.std.proofs.Common.{◌≡◌, inl, inr, ℕ, zero, suc, ◌<◌, ◌+◌, true, false, not, List, [], ◌∷◌, ◌++◌}
use Rattle.std.proofs.Common.{length, Some, IsTrue, refl, sym, ap, ap₂, ◌∙◌, subst, true≢false, filter, map, Contains}
use Rattle.std.proofs.Common.{arith, slice_get}
use Rattle.std.specs.Prelude.{All, AllPairs, ◌&&◌, get_or}
use Rattle.std.specs.declared.cmp.Ordering.{Ordering}
use Rattle.std.specs.declared.cmp.Ordering.TheVariants.{Less, Equal, Greater}
use Rattle.std.specs.Ordering.{is_le, is_lt, is_eq, nat_cmp, ordering_then}
use Rattle.std.specs.Cmp.{nat_cmp_is}
use Rattle.std.specs.Cmp.Lexicographic.{slice_cmp}
use Rattle.std.specs.List.Sorted.{IsStrictlySortedBy}
use Rattle.std.proofs.lemmas.Bool.{and_parts, cases_eq, cases_order, not-true}
use Rattle.std.proofs.lemmas.Cmp.{nat_list_cmp_total, nat_cmp_total, on_total, then_total, tied_itself}
use Rattle.std.proofs.lemmas.Map.Lookups.{exact_bytes, exact_pairs, exact_unsigned, CmpEqualImpliesEq}
use Rattle.std.proofs.lemmas.Map.Views.{btree_set_contains_iff, btree_set_contains_from_list}
use Rattle.std.specs.BTreeSet.{BTreeSet, IsFromIterResult}
use Rattle.std.specs.Cmp.{IsTotalOrder}
use Rattle.std.proofs.lemmas.Option.{slice_get_within, same_Some}
use Rattle.std.proofs.lemmas.List.Elements.{Contains-append_left, Contains-push, Contains-push_cases}
use Rattle.std.proofs.lemmas.List.Elements.{filter_passes, All-map, All-weaker}
use Rattle.std.proofs.lemmas.List.Kept.{AllPairs-filter}
use Rattle.terms.specs.declared.codes.NeedKind.{NeedKind}
use Rattle.terms.specs.Types.{Id}
use Rattle.terms.specs.Needs.{takes_superseder}
use Rattle.terms.proofs.RisingLists.{Rises_from_sorted}
use Rattle.terms.proofs.ListMembers.{map_in, in_map, filter_in, in_filter, none_in}
use Rattle.terms.proofs.Pairs.{pairs_map}
use Rattle.judge_system.specs.Said.{Serves}
use Rattle.judge_system.specs.Serving.{StandsFor, AreOwn, AddsSuperseded, AreServed, AreOwnPlaces, IsServedIn}
use Rattle.judge_system.specs.Serving.{is_between}
use Rattle.terms.proofs.Orderings.{between_then, Equal_from_is_eq}

-- a pair in a list
abbrev pub Has : List (Id × ℕ) → Id → ℕ → Type 0
Has pairs z n = Contains {X = Id × ℕ} pairs (z, n)

-- ---- the pairs

-- the next candidate with its place
pub own_next : (ids : List Id) (k : ℕ) (y : Id) (old new : List (Id × ℕ)) → slice_get ids k ≡ Some y
    → new ≡ old ++ (y, k) ∷ [] → AreOwn ids k old → AreOwn ids (k + 1) new
own_next ids k y old new at made was z n = (
  λ h. elim (Contains-push_cases old (y, k) (z, n) (subst (λ l. Has l z n) made h)) [
    | inl before ↦ let w = (was z n).0 before in (omega (arith, w.0), w.1)
    | inr same ↦
        let place : k ≡ n = ap (λ p. p.1) same in (
          omega (arith, place),
          subst (λ m. slice_get ids m ≡ Some z) place (at ∙ ap (λ v. Some v) (ap (λ p. p.0) same)),
        )
  ],
  λ w. subst (λ l. Has l z n) (sym made) (elim (cases_eq n k) [
    | inl this ↦
        let same : y ≡ z = same_Some y z (sym at ∙ subst (λ m. slice_get ids m ≡ Some z) this w.1) in
        subst (λ p. Contains (old ++ (y, k) ∷ []) p) (ap₂ (λ a b. (a, b)) same (sym this)) (Contains-push old (y, k))
    | inr other ↦ Contains-append_left old ((y, k) ∷ []) (z, n) ((was z n).1 (omega (arith, w.0, other), w.1))
  ]),
)

pub own_none : (ids : List Id) → AreOwn ids 0 []
own_none ids z n = (λ h. absurd (none_in (z, n) h), λ w. absurd (omega (arith, w.0)))

-- the next that a candidate supersedes
pub superseded_next : (ids : List Id) (front : List (Id × Id)) (pair : Id × Id) (place : ℕ)
    (first old new : List (Id × ℕ))
    → ((n : ℕ) → slice_get ids n ≡ Some pair.0 → place ≡ n) → slice_get ids place ≡ Some pair.0
    → new ≡ old ++ (pair.1, place) ∷ []
    → AddsSuperseded ids front first old → AddsSuperseded ids (front ++ pair ∷ []) first new
superseded_next ids front pair place first old new one at made was z n = (
  λ h. elim (Contains-push_cases old (pair.1, place) (z, n) (subst (λ l. Has l z n) made h)) [
    | inl before ↦ elim ((was z n).0 before) [
      | inl start ↦ inl start
      | inr by ↦ inr (by.0, Contains-append_left front (pair ∷ []) (by.0, z) by.1, by.2)
    ]
    | inr same ↦ inr (
      pair.0,
      subst (λ v. Contains {X = Id × Id} (front ++ pair ∷ []) (pair.0, v)) (ap (λ p. p.0) same)
          (Contains-push front pair),
      subst (λ m. slice_get ids m ≡ Some pair.0) (ap (λ p. p.1) same) at,
    )
  ],
  λ w. subst (λ l. Has l z n) (sym made) (elim w [
    | inl start ↦ Contains-append_left old ((pair.1, place) ∷ []) (z, n) ((was z n).1 (inl start))
    | inr by ↦ elim (Contains-push_cases front pair (by.0, z) by.1) [
      | inl before ↦ Contains-append_left old ((pair.1, place) ∷ []) (z, n) ((was z n).1 (inr (by.0, before, by.2)))
      | inr same ↦
          let who : by.0 ≡ pair.0 = sym (ap (λ p. p.0) same) in
          let here_now : place ≡ n = one n (by.2 ∙ ap (λ v. Some v) who) in
          subst (λ p. Contains (old ++ (pair.1, place) ∷ []) p) (ap₂ (λ a b. (a, b)) (ap (λ p. p.1) same) here_now)
          (Contains-push old (pair.1, place))
    ]
  ]),
)

pub superseded_none : (ids : List Id) (first : List (Id × ℕ)) → AddsSuperseded ids [] first first
superseded_none ids first z n = (
  λ h. inl h,
  λ w. elim w [ inl start ↦ start | inr by ↦ absurd (none_in (by.0, z) by.1) ],
)

-- both together
pub all_served : (ids : List Id) (superseded : List (Id × Id)) (own all : List (Id × ℕ)) → AreOwn ids (length ids) own
    → AddsSuperseded ids superseded own all → AreServed ids superseded all
all_served ids superseded own all first more z n = (
  λ h. elim ((more z n).0 h) [
    | inl start ↦ (z, ((first z n).0 start).1, inl refl)
    | inr by ↦ (by.0, by.2, inr by.1)
  ],
  λ w. (more z n).1 (elim w.2 [
    | inl same ↦ inl ((first z n).1 (slice_get_within ids n w.0 w.1, w.1 ∙ ap (λ v. Some v) same))
    | inr over ↦ inr (w.0, over, w.1)
  ]),
)

-- ---- a part of the pairs in order

abbrev pub pair_cmp : Id × ℕ → Id × ℕ → Ordering
pair_cmp a b = ordering_then (slice_cmp nat_cmp a.0 b.0) (nat_cmp a.1 b.1)

pairs_total : IsTotalOrder pair_cmp
pairs_total = then_total (on_total (λ (p : Id × ℕ). p.0) nat_list_cmp_total) (on_total (λ (p : Id × ℕ). p.1)
    nat_cmp_total)

pairs_exact : CmpEqualImpliesEq pair_cmp
pairs_exact = exact_pairs (slice_cmp nat_cmp) nat_cmp exact_bytes exact_unsigned

-- a set of the pairs has the same ones
pub collected : (ids : List Id) (superseded : List (Id × Id)) (pairs : List (Id × ℕ)) (set : BTreeSet (Id × ℕ))
    → IsFromIterResult pair_cmp pairs set → AreServed ids superseded pairs → AreServed ids superseded set.keys
collected ids superseded pairs set made are z n =
    let pair : Id × ℕ = (z, n) in
    let a = btree_set_contains_iff pairs_total pairs_exact set pair in
    let b = btree_set_contains_from_list pairs_total pairs_exact pairs set made pair in
    let d = are z n in
    (λ h. d.0 (b.0 (a.1 h)), λ s. a.0 (b.1 (d.1 s)))

not_below : (n : ℕ) → is_le (nat_cmp 0 n) ≡ true
not_below zero = refl
not_below (suc n) = ap is_le (sym (nat_cmp_is 0 (suc n) Less (omega arith)))

before_end : (end n : ℕ) → n < end → is_le (nat_cmp end n) ≡ false
before_end end n below = ap is_le (sym (nat_cmp_is end n Greater below))

below_end : (end n : ℕ) → is_le (nat_cmp end n) ≡ false → n < end
below_end end n off = elim (cases_order end n) [
  | inl same ↦ absurd (true≢false (sym (ap is_le (sym (nat_cmp_is end n Equal same))) ∙ off))
  | inr apart ↦ elim apart [
    | inl less ↦ absurd (true≢false (sym (ap is_le (sym (nat_cmp_is end n Less less))) ∙ off))
    | inr more ↦ more
  ]
]

pub between : (z : Id) (end : ℕ) (p : Id × ℕ) → is_between z end p ≡ true → (z ≡ p.0) × (p.1 < end)
between z end p on =
    let parts = and_parts (is_eq (slice_cmp nat_cmp z p.0)) (is_le (nat_cmp 0 p.1) && not (is_le (nat_cmp end p.1)))
    (sym (between_then (slice_cmp nat_cmp z p.0) (nat_cmp 0 p.1) (nat_cmp end p.1)) ∙ on) in
    let back = and_parts (is_le (nat_cmp 0 p.1)) (not (is_le (nat_cmp end p.1))) parts.1 in (
      exact_bytes z p.0 (Equal_from_is_eq (slice_cmp nat_cmp z p.0) parts.0),
      below_end end p.1 (not-true (is_le (nat_cmp end p.1)) back.1),
    )

pub is_between_holds : (z : Id) (end n : ℕ) → n < end → is_between z end (z, n) ≡ true
is_between_holds z end n below =
    between_then (slice_cmp nat_cmp z z) (nat_cmp 0 n) (nat_cmp end n)
    ∙ ap (λ i. is_eq i && (is_le (nat_cmp 0 n) && not (is_le (nat_cmp end n)))) (tied_itself nat_list_cmp_total z)
    ∙ ap₂ (λ a b. a && not b) (not_below n) (before_end end n below)

-- the places in a part of the pairs
pub places_below : (z : Id) (end : ℕ) (pairs : List (Id × ℕ))
    → All (λ n. n < end) (map (λ p. p.1) (filter (is_between z end) pairs))
places_below z end pairs =
    All-map (λ n. n < end) (λ p. p.1) (filter (is_between z end) pairs)
    (All-weaker (λ p. is_between z end p ≡ true) (λ p. p.1 < end) (λ p on. (between z end p on).1)
    (filter (is_between z end) pairs) (filter_passes (is_between z end) pairs))

rises_at : (z : Id) (end : ℕ) (p q : Id × ℕ) → is_between z end p ≡ true → is_between z end q ≡ true
    → IsTrue (is_lt (pair_cmp p q)) → p.1 < q.1
rises_at z end p q on_p on_q less =
    let same : p.0 ≡ q.0 = sym (between z end p on_p).0 ∙ (between z end q on_q).0 in
    let tie : slice_cmp nat_cmp p.0 q.0 ≡ Equal =
    subst (λ y. slice_cmp nat_cmp p.0 y ≡ Equal) same (tied_itself nat_list_cmp_total p.0) in
    below (sym (ap (λ i. is_lt (ordering_then i (nat_cmp p.1 q.1))) tie) ∙ less)
  where
    below : is_lt (nat_cmp p.1 q.1) ≡ true → p.1 < q.1
    below on = elim (cases_order p.1 q.1) [
      | inl same ↦ absurd (true≢false (sym on ∙ ap is_lt (sym (nat_cmp_is p.1 q.1 Equal same))))
      | inr apart ↦ elim apart [
        | inl less ↦ less
        | inr more ↦ absurd (true≢false (sym on ∙ ap is_lt (sym (nat_cmp_is p.1 q.1 Greater more))))
      ]
    ]

pub places_rise : (z : Id) (end : ℕ) (pairs : List (Id × ℕ)) → IsStrictlySortedBy pair_cmp pairs
    → AllPairs (λ a b. a < b) (map (λ p. p.1) (filter (is_between z end) pairs))
places_rise z end pairs sorted =
    let rises = AllPairs-filter (λ p q. IsTrue (is_lt (pair_cmp p q))) (is_between z end) pairs
    (Rises_from_sorted pair_cmp pairs sorted) in
    let passes = filter_passes (is_between z end) pairs in
    pairs_map (λ p q. p.1 < q.1) (λ a b. a < b) (λ p. p.1) (λ p q h. h) (filter (is_between z end) pairs)
    (λ i j d less below. rises_at z end (get_or (filter (is_between z end) pairs) i d)
    (get_or (filter (is_between z end) pairs) j d) (passes i d (omega (arith, less, below))) (passes j d below)
    (rises i j d less below))

-- they serve where a superseder does
pub served_places_holds : (ids : List Id) (kind : NeedKind) (z : Id) (pairs : List (Id × ℕ)) (any : List ℕ)
    → takes_superseder kind ≡ true → any ≡ map (λ p. p.1) (filter (is_between z (length ids)) pairs)
    → IsServedIn ids kind z pairs any
served_places_holds ids kind z pairs any takes are superseded all n y at = (
  λ h.
      let m = map_in (λ p. p.1) (filter (is_between z (length ids)) pairs) n (subst (λ l. Contains l n) are h) in
      let f = filter_in (is_between z (length ids)) pairs m.0 m.1 in
      let same : m.0 ≡ (z, n) = ap₂ (λ a b. (a, b)) (sym (between z (length ids) m.0 f.1).0) m.2 in
      let s = (all z n).0 (subst (Contains pairs) same f.0) in
      serves (subst (λ v. StandsFor superseded v z) (same_Some s.0 y (sym s.1 ∙ at)) s.2),
  λ h.
      let below = slice_get_within ids n y at in
      let s = (all z n).1 (y, at, stands h) in
      subst (λ l. Contains l n) (sym are) (in_map (λ p. p.1) (filter (is_between z (length ids)) pairs) (z, n)
      (in_filter (is_between z (length ids)) pairs (z, n) s (is_between_holds z (length ids) n below))),
)
  where
    serves : StandsFor superseded y z → Serves superseded kind y z
    serves (inl same) = inl same
    serves (inr over) = inr (takes, over)

    stands : Serves superseded kind y z → StandsFor superseded y z
    stands (inl same) = inl same
    stands (inr over) = inr over.1

-- else the id alone
pub own_serve : (ids : List Id) (kind : NeedKind) (z : Id) (pairs : List (Id × ℕ)) (any : List ℕ)
    → takes_superseder kind ≡ false → AreOwnPlaces ids z any → IsServedIn ids kind z pairs any
own_serve ids kind z pairs any off own superseded all n y at = (
  λ h. inl ((own n y at).0 h),
  λ h. (own n y at).1 (elim h [ inl same ↦ same | inr over ↦ absurd (true≢false (sym over.0 ∙ off)) ]),
)
