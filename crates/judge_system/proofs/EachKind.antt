-- The needs of a row, kind by kind: in order and each once, they are those of each kind by their ids.
use Rattle.std.proofs.Common.{◌≡◌, ◌∙◌, inl, inr, ℕ, ◌<◌, Bool, true, false, List, [], ◌∷◌, Contains, refl}
use Rattle.std.proofs.Common.{sym, ap, ap₂, subst, filter, map, arith, IsTrue, slice_get, Some}
use Rattle.std.specs.Prelude.{◌↔◌, ◌⊎◌, ◌==◌, ◌&&◌, AllPairs, All, IsPermutation}
use Rattle.std.specs.Ordering.{is_eq, is_lt, nat_cmp, ordering_then}
use Rattle.std.specs.declared.cmp.Ordering.{Ordering}
use Rattle.std.specs.Cmp.{IsTotalOrder, IsEquivalence, unsigned_ties}
use Rattle.std.specs.Cmp.Lexicographic.{slice_cmp, texts_ties}
use Rattle.std.specs.List.{dedup, flat_map}
use Rattle.std.specs.List.Sorted.{IsSorted}
use Rattle.std.specs.Str.{bytes_eq}
use Rattle.std.proofs.lemmas.Bool.{and_parts, cases_Bool, eqb-true, eq-eqb, ltb-true, or_cases}
use Rattle.std.proofs.lemmas.Cmp.{then_total, on_total, and_equiv, on_equiv, nat_cmp_total, nat_eq_equiv}
use Rattle.std.proofs.lemmas.Cmp.{nat_list_cmp_total, nat_list_eq_equiv}
use Rattle.std.proofs.lemmas.Option.{same_Some}
use Rattle.std.proofs.lemmas.List.Elements.{All-weaker, filter_passes}
use Rattle.std.proofs.lemmas.List.Kept.{AllPairs-filter, IsStrictlySortedBy-dedup, Contains-dedup, Contains-from_dedup}
use Rattle.std.proofs.lemmas.List.Sorted.{Contains-permutation, IsPermutation-sym}
use Rattle.terms.proofs.ListMembers.{in_filter, filter_in, in_map, map_in}
use Rattle.terms.proofs.Orderings.{is_eq_then, lower_first}
use Rattle.terms.proofs.Pairs.{AllPairs_first, AllPairs_rest, pairs_map}
use Rattle.terms.proofs.Searches.{filter_none}
use Rattle.terms.proofs.TextOrder.{same_from}
use Rattle.terms.proofs.RisingLists.{Rises_from_sorted}
use Rattle.terms.specs.declared.codes.NeedKind.{NeedKind}
use Rattle.terms.specs.declared.codes.NeedKind.TheVariants.{Fmid, Pre, Req, Ifreq, HoldError, Orphan, Elem, Dep}
use Rattle.terms.specs.contracts.codes.NeedKindOrd.TheImpl as kind_order
use Rattle.terms.specs.contracts.codes.NeedKindPartialEq.TheImpl as kind_equality
use Rattle.terms.specs.Failures.{all_needs}
use Rattle.terms.specs.Types.{Id}
use Rattle.machine.specs.Outcome.{OpenNeed}
use Rattle.judge_system.specs.declared.failure.OpenNeed as declared
use Rattle.judge_system.specs.Views.{need_view}
use Rattle.judge_system.specs.Open.{need_cmp, AreEachOnce, of_kind, AreNeedsOf}

abbrev KindAndId : Type 0
KindAndId = NeedKind × Id

-- the need as it is told
abbrev pub open_need : KindAndId → declared.OpenNeed
open_need p = record { kind = p.0; id = p.1 }

-- ---- the order of kinds, by their places in reports

number : NeedKind → ℕ
number Fmid = 0
number Pre = 1
number Req = 2
number Ifreq = 3
number HoldError = 4
number Orphan = 5
number Elem = 6
number Dep = 7

cmp_kinds : (a b : NeedKind) → kind_order.ghosts.cmp a b ≡ nat_cmp (number a) (number b)
unfolding number
cmp_kinds Fmid Fmid = refl
cmp_kinds Pre Fmid = refl
cmp_kinds Req Fmid = refl
cmp_kinds Ifreq Fmid = refl
cmp_kinds HoldError Fmid = refl
cmp_kinds Orphan Fmid = refl
cmp_kinds Elem Fmid = refl
cmp_kinds Dep Fmid = refl
cmp_kinds a b = refl

eq_kinds : (a b : NeedKind) → kind_equality.ghosts.eq a b ≡ (number a == number b)
unfolding number
eq_kinds Fmid Fmid = refl
eq_kinds Pre Fmid = refl
eq_kinds Req Fmid = refl
eq_kinds Ifreq Fmid = refl
eq_kinds HoldError Fmid = refl
eq_kinds Orphan Fmid = refl
eq_kinds Elem Fmid = refl
eq_kinds Dep Fmid = refl
eq_kinds a b = refl

kind_at_number : (a : NeedKind) → slice_get all_needs (number a) ≡ Some a
unfolding number
kind_at_number Fmid = refl
kind_at_number Pre = refl
kind_at_number Req = refl
kind_at_number Ifreq = refl
kind_at_number HoldError = refl
kind_at_number Orphan = refl
kind_at_number Elem = refl
kind_at_number Dep = refl

same_kind : (a b : NeedKind) → number a ≡ number b → a ≡ b
same_kind a b e = same_Some a b (sym (kind_at_number a) ∙ ap (slice_get all_needs) e ∙ kind_at_number b)

-- ---- the order of needs

numbered_cmp : KindAndId → KindAndId → Ordering
numbered_cmp a b = ordering_then (nat_cmp (number a.0) (number b.0)) (slice_cmp nat_cmp a.1 b.1)

numbered_total : IsTotalOrder numbered_cmp
unfolding numbered_cmp
numbered_total = then_total (on_total (λ (p : KindAndId). number p.0) nat_cmp_total)
    (on_total (λ (p : KindAndId). p.1) nat_list_cmp_total)

abbrev pub need_eq : KindAndId → KindAndId → Bool
need_eq a b = kind_equality.ghosts.eq a.0 b.0 && bytes_eq a.1 b.1

numbered_eq : KindAndId → KindAndId → Bool
numbered_eq a b = (number a.0 == number b.0) && bytes_eq a.1 b.1

eq_numbered : (a b : KindAndId) → need_eq a b ≡ numbered_eq a b
unfolding numbered_eq
eq_numbered a b = ap (λ t. t && bytes_eq a.1 b.1) (eq_kinds a.0 b.0)

cmp_numbered : (a b : KindAndId) → need_cmp a b ≡ numbered_cmp a b
unfolding numbered_cmp
cmp_numbered a b = ap (λ r. ordering_then r (slice_cmp nat_cmp a.1 b.1)) (cmp_kinds a.0 b.0)

numbered_equiv : IsEquivalence numbered_eq
unfolding numbered_eq
numbered_equiv = and_equiv (on_equiv (λ (p : KindAndId). number p.0) nat_eq_equiv)
    (on_equiv (λ (p : KindAndId). p.1) nat_list_eq_equiv)

-- the laws of what is derived, from those by number
need_total : IsTotalOrder need_cmp
need_total =
    let o = numbered_total in
    record {
      antisymm = λ a b. rw (cmp_numbered a b, cmp_numbered b a) (o.antisymm a b);
      trans = λ a b c less also. rw (cmp_numbered a c) (o.trans a b c (rw (cmp_numbered a b) at less)
          (rw (cmp_numbered b c) at also));
      congr = λ a b c tie. rw (cmp_numbered a c, cmp_numbered b c) (o.congr a b c (rw (cmp_numbered a b) at tie));
    }

need_equiv : IsEquivalence need_eq
need_equiv =
    let o = numbered_equiv in
    record {
      refl = λ a. rw (eq_numbered a a) (o.refl a);
      symm = λ a b. rw (eq_numbered a b, eq_numbered b a) (o.symm a b);
      congr = λ a b c same. rw (eq_numbered a c, eq_numbered b c) (o.congr a b c (rw (eq_numbered a b) at same));
    }

need_ties : (a b : KindAndId) → need_eq a b ≡ is_eq (need_cmp a b)
unfolding numbered_eq numbered_cmp
need_ties a b =
    eq_numbered a b
    ∙ ap₂ (λ s t. s && t) (unsigned_ties (number a.0) (number b.0)) (texts_ties a.1 b.1)
    ∙ sym (is_eq_then (nat_cmp (number a.0) (number b.0)) (slice_cmp nat_cmp a.1 b.1))
    ∙ ap is_eq (sym (cmp_numbered a b))

need_same : (a b : KindAndId) → need_eq a b ≡ true → a ≡ b
unfolding numbered_eq
need_same a b on =
    let parts = and_parts (number a.0 == number b.0) (bytes_eq a.1 b.1) (sym (eq_numbered a b) ∙ on) in
    ap₂ (λ s t. (s, t)) (same_kind a.0 b.0 (eqb-true (number a.0) (number b.0) parts.0)) (same_from a.1 b.1 parts.1)

-- what is sorted and has no doubles
pub sorted_once : (needs sorted : List KindAndId) → IsPermutation needs sorted → IsSorted need_cmp sorted
    → AreEachOnce needs (dedup need_eq sorted)
sorted_once needs sorted moved in_order = record {
  rise = Rises_from_sorted need_cmp (dedup need_eq sorted) (IsStrictlySortedBy-dedup need_total need_ties sorted
      in_order);
  members = λ need. (
    λ h. Contains-permutation sorted needs need (IsPermutation-sym needs sorted moved)
        (Contains-from_dedup need_eq sorted need h),
    λ h. Contains-dedup need_equiv need_same sorted need (Contains-permutation needs sorted need moved h),
  );
}

-- ---- kind by kind

abbrev Below : KindAndId → KindAndId → Type 0
Below a b = IsTrue (is_lt (need_cmp a b))

-- what is below is of no later kind, and of one kind it has the lower id
below_parts : (a b : KindAndId) → Below a b
    → (number a.0 < number b.0) ⊎ ((number a.0 ≡ number b.0) × IsTrue (is_lt (slice_cmp nat_cmp a.1 b.1)))
unfolding numbered_cmp
below_parts a b low =
    let numbered = rw (cmp_numbered a b) at low in
    elim (or_cases _ _ (lower_first (number a.0) (number b.0) (slice_cmp nat_cmp a.1 b.1) numbered)) [
      | inl less ↦ inl (ltb-true (number a.0) (number b.0) less)
      | inr same ↦
          let parts = and_parts (number a.0 == number b.0) (is_lt (slice_cmp nat_cmp a.1 b.1)) same in
          inr (eqb-true (number a.0) (number b.0) parts.0, parts.1)
    ]

is_of : NeedKind → KindAndId → Bool
is_of kind p = number p.0 == number kind

ids_of : List KindAndId → NeedKind → List Id
ids_of needs kind = map (λ p. p.1) (filter (is_of kind) needs)

-- none is of a kind before that of one that all others are above
none_before : (kind : NeedKind) (first : KindAndId) (needs : List KindAndId) → number kind < number first.0
    → All (Below first) needs → ids_of needs kind ≡ []
unfolding is_of ids_of
none_before kind first needs less low =
    ap (map (λ p. p.1)) (filter_none (is_of kind) needs (All-weaker (Below first) (λ p. is_of kind p ≡ false)
    (λ p below. elim (cases_Bool (number p.0 == number kind)) [
      | inl on ↦
          let same = eqb-true (number p.0) (number kind) on in
          elim (below_parts first p below) [
            | inl more ↦ absurd (omega (arith, same, more, less))
            | inr tie ↦ absurd (omega (arith, same, tie.0, less))
          ]
      | inr off ↦ off
    ]) needs low))

of_one_kind : (kind : NeedKind) (needs : List KindAndId) → AllPairs Below needs → AllPairs
    (λ x y. IsTrue (is_lt (slice_cmp nat_cmp x y))) (ids_of needs kind)
unfolding is_of ids_of
of_one_kind kind needs rise =
    let passes = filter_passes (is_of kind) needs in
    let pairs = AllPairs-filter Below (is_of kind) needs rise in
    pairs_map (λ a b. Below a b × (is_of kind a ≡ true) × (is_of kind b ≡ true))
    (λ x y. IsTrue (is_lt (slice_cmp nat_cmp x y))) (λ p. p.1)
    (λ a b h.
    let first = eqb-true (number a.0) (number kind) h.1 in
    let second = eqb-true (number b.0) (number kind) h.2 in
    elim (below_parts a b h.0) [
      | inl less ↦ absurd (omega (arith, first, second, less))
      | inr tie ↦ tie.1
    ])
    (filter (is_of kind) needs)
    (λ i j d less within. (pairs i j d less within, passes i d (omega (arith, less, within)), passes j d within))

members_of : (kind : NeedKind) (needs : List KindAndId) (z : Id)
    → Contains (ids_of needs kind) z ↔ Contains needs (kind, z)
unfolding is_of ids_of
members_of kind needs z = (
  λ h.
      let found = map_in (λ p. p.1) (filter (is_of kind) needs) z h in
      let kept = filter_in (is_of kind) needs found.0 found.1 in
      let same : found.0 ≡ (kind, z) =
      ap₂ (λ a b. (a, b)) (same_kind found.0.0 kind (eqb-true (number found.0.0) (number kind) kept.1)) found.2 in
      subst (Contains needs) same kept.0,
  λ h. in_map (λ p. p.1) (filter (is_of kind) needs) (kind, z) (in_filter (is_of kind) needs (kind, z) h
      (eq-eqb (number kind) (number kind) refl)),
)

-- so of the rest behind the first one
none_behind : (first : KindAndId) (rest : List KindAndId) → AllPairs Below (first ∷ rest) → (kind : NeedKind)
    → number kind < number first.0 → ids_of rest kind ≡ []
none_behind first rest rise kind less = none_before kind first rest less (AllPairs_first Below first rest rise)

abbrev told : KindAndId → OpenNeed
told p = need_view (open_need p)

-- Needs in order are those of the kinds, one kind after the other: behind the first one, none is of a kind before its.
grouped : (needs : List KindAndId) → AllPairs Below needs
    → map told needs ≡ flat_map (λ kind. of_kind kind (ids_of needs kind)) all_needs
unfolding number is_of ids_of
grouped [] rise = refl
grouped ((Fmid, z) ∷ rest) rise = ap (λ l. told (Fmid, z) ∷ l) (grouped rest (AllPairs_rest Below (Fmid, z) rest rise))
grouped ((Pre, z) ∷ rest) rise =
    let none = none_behind (Pre, z) rest rise in
    let fmid = none Fmid (omega arith) in
    rw fmid (ap (λ l. told (Pre, z) ∷ l)
    (rw fmid at (grouped rest (AllPairs_rest Below (Pre, z) rest rise))))
grouped ((Req, z) ∷ rest) rise =
    let none = none_behind (Req, z) rest rise in
    let fmid = none Fmid (omega arith) in
    let pre = none Pre (omega arith) in
    rw (fmid, pre) (ap (λ l. told (Req, z) ∷ l)
    (rw (fmid, pre) at (grouped rest (AllPairs_rest Below (Req, z) rest rise))))
grouped ((Ifreq, z) ∷ rest) rise =
    let none = none_behind (Ifreq, z) rest rise in
    let fmid = none Fmid (omega arith) in
    let pre = none Pre (omega arith) in
    let req = none Req (omega arith) in
    rw (fmid, pre, req) (ap (λ l. told (Ifreq, z) ∷ l)
    (rw (fmid, pre, req) at (grouped rest (AllPairs_rest Below (Ifreq, z) rest rise))))
grouped ((HoldError, z) ∷ rest) rise =
    let none = none_behind (HoldError, z) rest rise in
    let fmid = none Fmid (omega arith) in
    let pre = none Pre (omega arith) in
    let req = none Req (omega arith) in
    let ifreq = none Ifreq (omega arith) in
    rw (fmid, pre, req, ifreq) (ap (λ l. told (HoldError, z) ∷ l)
    (rw (fmid, pre, req, ifreq) at (grouped rest (AllPairs_rest Below (HoldError, z) rest rise))))
grouped ((Orphan, z) ∷ rest) rise =
    let none = none_behind (Orphan, z) rest rise in
    let fmid = none Fmid (omega arith) in
    let pre = none Pre (omega arith) in
    let req = none Req (omega arith) in
    let ifreq = none Ifreq (omega arith) in
    let held = none HoldError (omega arith) in
    rw (fmid, pre, req, ifreq, held) (ap (λ l. told (Orphan, z) ∷ l)
    (rw (fmid, pre, req, ifreq, held) at (grouped rest (AllPairs_rest Below (Orphan, z) rest rise))))
grouped ((Elem, z) ∷ rest) rise =
    let none = none_behind (Elem, z) rest rise in
    let fmid = none Fmid (omega arith) in
    let pre = none Pre (omega arith) in
    let req = none Req (omega arith) in
    let ifreq = none Ifreq (omega arith) in
    let held = none HoldError (omega arith) in
    let orphan = none Orphan (omega arith) in
    rw (fmid, pre, req, ifreq, held, orphan) (ap (λ l. told (Elem, z) ∷ l)
    (rw (fmid, pre, req, ifreq, held, orphan) at (grouped rest (AllPairs_rest Below (Elem, z) rest rise))))
grouped ((Dep, z) ∷ rest) rise =
    let none = none_behind (Dep, z) rest rise in
    let fmid = none Fmid (omega arith) in
    let pre = none Pre (omega arith) in
    let req = none Req (omega arith) in
    let ifreq = none Ifreq (omega arith) in
    let held = none HoldError (omega arith) in
    let orphan = none Orphan (omega arith) in
    let elem = none Elem (omega arith) in
    rw (fmid, pre, req, ifreq, held, orphan, elem) (ap (λ l. told (Dep, z) ∷ l)
    (rw (fmid, pre, req, ifreq, held, orphan, elem) at (grouped rest (AllPairs_rest Below (Dep, z) rest rise))))

-- so are those of a row, sorted
pub are_needs : (unserved needs : List KindAndId) → AreEachOnce unserved needs → AreNeedsOf unserved (map told needs)
are_needs unserved needs once = record {
  ids_of = ids_of needs;
  are_ids = λ kind. record {
    rising = of_one_kind kind needs once.rise;
    members = λ z. (
      λ h. (once.members (kind, z)).0 ((members_of kind needs z).0 h),
      λ h. (members_of kind needs z).1 ((once.members (kind, z)).1 h),
    );
  };
  needs_are = grouped needs once.rise;
}
