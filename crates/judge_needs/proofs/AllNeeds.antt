-- The needs of candidates, each once, as they come in.
use Rattle.std.proofs.Common.{◌≡◌, ◌≢◌, ◌⊎◌, inl, inr, ℕ, ◌<◌, ◌+◌, Bool, true, List, [], ◌∷◌, ◌++◌}
use Rattle.std.proofs.Common.{Option, None, Some, IsTrue, refl, sym, ap, append-nil, ◌∙◌, subst, filter, map, Contains}
use Rattle.std.proofs.Common.{arith, length, take, drop, get_or}
use Rattle.std.specs.Prelude.{◌↔◌, AllPairs, MatchOption}
use Rattle.std.specs.List.{AllByRecursion}
use Rattle.std.proofs.lemmas.List.{append_assoc, take-append-drop}
use Rattle.std.proofs.lemmas.List.Elements.{Contains-append_left, Contains-append_right, Contains-append_cases}
use Rattle.std.proofs.lemmas.List.Elements.{Contains-get_or, All-contains}
use Rattle.std.proofs.lemmas.List.Kept.{AllPairs-filter}
use Rattle.terms.specs.declared.codes.NeedKind.{NeedKind}
use Rattle.terms.specs.declared.codes.NeedKind.TheVariants.{Fmid, Pre, Req, Ifreq, HoldError, Orphan, Elem, Dep}
use Rattle.terms.specs.Types.{Id, Zone, Bypass}
use Rattle.terms.specs.Lookups.{IsRising, at_most_one, is_before}
use Rattle.terms.specs.Tests.{Setting}
use Rattle.terms.specs.Needs.{asked}
use Rattle.terms.proofs.IdPlaces.{before_apart}
use Rattle.terms.proofs.Lists.{front_more}
use Rattle.terms.proofs.ListMembers.{here, here_or, there, map_in, in_map, filter_in, in_filter, none_in}
use Rattle.terms.proofs.Pairs.{AllPairs_front, AllPairs_join, AllPairs_parts, pairs_map}
use Rattle.judge_system.specs.declared.stated.RequisiteOf.{RequisiteOf}
use Rattle.judge_system.specs.Said.{a_need}
use Rattle.judge_needs.specs.Needed.{is_open, IsOpen, AreAllNeeds, AreNeedsOf, AddsPart, IsOfKind}
use Rattle.judge_needs.proofs.Growing.{front_in}

pub join : (D E : Id → NeedKind → Id → Type 0) (xs ys : List RequisiteOf) → AreAllNeeds D xs → AreAllNeeds E ys
    → ((x : Id) (kind : NeedKind) (z : Id) → D x kind z → ¬ E x kind z)
    → AreAllNeeds (λ x kind z. D x kind z ⊎ E x kind z) (xs ++ ys)
join D E xs ys v w apart = record {
  members = λ x kind z. (
    λ h. elim (Contains-append_cases xs ys (a_need x kind z) h) [
      | inl front ↦ inl ((v.members x kind z).0 front)
      | inr back ↦ inr ((w.members x kind z).0 back)
    ],
    λ h. elim h [
      | inl d ↦ Contains-append_left xs ys (a_need x kind z) ((v.members x kind z).1 d)
      | inr e ↦ Contains-append_right xs ys (a_need x kind z) ((w.members x kind z).1 e)
    ],
  );
  once = AllPairs_join (λ v w. v ≢ w) xs ys v.once w.once (λ i a below j b within.
      differ (get_or xs i a) (get_or ys j b) (Contains-get_or xs i a below) (Contains-get_or ys j b within));
}
  where
    differ : (a b : RequisiteOf) → Contains xs a → Contains ys b → a ≢ b
    differ a b in_xs in_ys same = apart a.of a.kind a.id ((v.members a.of a.kind a.id).0 in_xs)
        ((w.members a.of a.kind a.id).0 (subst (Contains ys) (sym same) in_ys))

pub alike : (D E : Id → NeedKind → Id → Type 0) (xs : List RequisiteOf)
    → ((x : Id) (kind : NeedKind) (z : Id) → D x kind z ↔ E x kind z) → AreAllNeeds D xs → AreAllNeeds E xs
alike D E xs both w = record {
  members = λ x kind z. (
    λ h. (both x kind z).0 ((w.members x kind z).0 h),
    λ e. (w.members x kind z).1 ((both x kind z).1 e),
  );
  once = w.once;
}

-- needs of one kind
module _ (zone : Zone) (b : Bypass) (kind : NeedKind) where
  abbrev is_left : Id → Bool
  is_left = is_open zone b kind

  pub of_kind_holds : (of : Id) (asked : List Id) (old new : List RequisiteOf) → IsRising asked
      → new ≡ old ++ map (a_need of kind) (filter (is_open zone b kind) asked)
      → AddsPart of (IsOfKind zone b kind asked) old new
  of_kind_holds of asked old new rising are = record {
    more = map (a_need of kind) (filter is_left asked);
    are = are;
    needs = record {
      members = λ x k z. (
        λ h.
            let m = map_in (a_need of kind) (filter is_left asked) (a_need x k z) h in
            let f = filter_in is_left asked m.0 m.1 in
            let same : m.0 ≡ z = ap (λ (w : RequisiteOf). w.id) m.2 in (
              sym (ap (λ (w : RequisiteOf). w.of) m.2),
              (
                sym (ap (λ (w : RequisiteOf). w.kind) m.2),
                subst (Contains asked) same f.0,
                subst (λ y. is_left y ≡ true) same f.1,
              ),
            ),
        λ h.
            subst (λ m. Contains (map (a_need of kind) (filter is_left asked)) (a_need m k z)) (sym h.0)
            (subst (λ j. Contains (map (a_need of kind) (filter is_left asked)) (a_need of j z)) (sym h.1.0)
            (in_map (a_need of kind) (filter is_left asked) z (in_filter is_left asked z h.1.1 h.1.2))),
      );
      once = pairs_map (λ x y. IsTrue (is_before x y)) (λ v w. v ≢ w) (a_need of kind)
          (λ x y below same. before_apart x y below (ap (λ (w : RequisiteOf). w.id) same)) (filter is_left asked)
          (AllPairs-filter (λ x y. IsTrue (is_before x y)) is_left asked rising);
    };
  }

-- two parts, one behind the other
pub both_parts : (of : Id) (P Q : NeedKind → Id → Type 0) (a b c : List RequisiteOf)
    → AddsPart of P a b → AddsPart of Q b c
    → ((kind : NeedKind) (z : Id) → P kind z → ¬ Q kind z)
    → AddsPart of (λ kind z. P kind z ⊎ Q kind z) a c
both_parts of P Q a b c p q apart = record {
  more = p.more ++ q.more;
  are = q.are ∙ ap (λ l. l ++ q.more) p.are ∙ append_assoc a p.more q.more;
  needs = alike _ _ (p.more ++ q.more) (λ x kind z. (
    λ h. elim h [ inl l ↦ (l.0, inl l.1) | inr r ↦ (r.0, inr r.1) ],
    λ h. elim h.1 [ inl l ↦ inl (h.0, l) | inr r ↦ inr (h.0, r) ],
  ))
      (join (λ x kind z. (x ≡ of) × P kind z) (λ x kind z. (x ≡ of) × Q kind z) p.more q.more p.needs q.needs
      (λ x kind z l r. apart kind z l.1 r.1));
}

pub same_part : (of : Id) (P Q : NeedKind → Id → Type 0) (a b : List RequisiteOf)
    → ((kind : NeedKind) (z : Id) → P kind z ↔ Q kind z) → AddsPart of P a b → AddsPart of Q a b
same_part of P Q a b both p = record {
  more = p.more;
  are = p.are;
  needs = alike _ _ p.more (λ x kind z. (
    λ h. (h.0, (both kind z).0 h.1),
    λ h. (h.0, (both kind z).1 h.1),
  )) p.needs;
}

-- the kinds by number
rank : NeedKind → ℕ
rank Fmid = 0
rank Pre = 1
rank Req = 2
rank Ifreq = 3
rank HoldError = 4
rank Orphan = 5
rank Elem = 6
rank Dep = 7

lower_at : (kind : NeedKind) (kinds : List NeedKind) (k : NeedKind) → AllByRecursion (λ j. rank j < rank kind) kinds
    → Contains kinds k → rank k < rank kind
lower_at kind [] k lower h = absurd (none_in k h)
lower_at kind (j ∷ js) k lower h =
    elim (here_or j js k h) [
      | inl same ↦ subst (λ m. rank m < rank kind) same lower.0
      | inr later ↦ lower_at kind js k lower.1 later
    ]

-- the needs of a candidate, kind by kind
module _ (s : Setting) (survivors : List Id) (left : Zone) (x : Id) where
  abbrev Of : NeedKind → NeedKind → Id → Type 0
  Of kind = IsOfKind left s.bypass kind (asked s survivors x kind)

  -- those of these kinds
  abbrev Among : List NeedKind → NeedKind → Id → Type 0
  Among kinds kind z = Contains kinds kind × IsOpen s survivors left x kind z

  no_kind : (l : List RequisiteOf) → AddsPart x (Among []) l l
  no_kind l = record {
    more = [];
    are = sym (append-nil l);
    needs = record {
      members = λ y kind z. (λ h. absurd (none_in (a_need y kind z) h), λ h. absurd (none_in kind h.1.0));
      once = λ i j d less below. absurd (omega (arith, below));
    };
  }

  next_kind : (kinds : List NeedKind) (kind : NeedKind) (a b c : List RequisiteOf)
      → AllByRecursion (λ j. rank j < rank kind) kinds → AddsPart x (Among kinds) a b → AddsPart x (Of kind) b c
      → AddsPart x (Among (kind ∷ kinds)) a c
  next_kind kinds kind a b c lower front next =
      same_part x (λ k z. Among kinds k z ⊎ Of kind k z) (Among (kind ∷ kinds)) a c (λ k z. (
        λ h. elim h [
          | inl l ↦ (there kind kinds k l.0, l.1)
          | inr o ↦ (
            subst (Contains (kind ∷ kinds)) (sym o.0) (here kind kinds),
            subst (λ j. IsOpen s survivors left x j z) (sym o.0) (o.1, o.2),
          )
        ],
        λ h. elim (here_or kind kinds k h.0) [
          | inl same ↦
              let of_kind = subst (λ j. IsOpen s survivors left x j z) (sym same) h.1 in
              inr (sym same, of_kind.0, of_kind.1)
          | inr later ↦ inl (later, h.1)
        ],
      ))
      (both_parts x (Among kinds) (Of kind) a b c front next
      (λ k z h o. let less = lower_at kind kinds k lower h.0 in omega (arith, less, ap rank o.0)))

  abbrev all_kinds : List NeedKind
  all_kinds = Orphan ∷ HoldError ∷ Ifreq ∷ Req ∷ Pre ∷ Fmid ∷ []

  asked_among : (kind : NeedKind) (z : Id) → IsOpen s survivors left x kind z → Contains all_kinds kind
  asked_among Orphan z h = (0, omega arith, refl)
  asked_among HoldError z h = (1, omega arith, refl)
  asked_among Ifreq z h = (2, omega arith, refl)
  asked_among Req z h = (3, omega arith, refl)
  asked_among Pre z h = (4, omega arith, refl)
  asked_among Fmid z h = (5, omega arith, refl)
  asked_among Elem z h = absurd (none_in z h.0)
  asked_among Dep z h = absurd (none_in z h.0)

  pub all_parts : (l0 l1 l2 l3 l4 l5 l6 : List RequisiteOf) → AddsPart x (Of Fmid) l0 l1 → AddsPart x (Of Pre) l1 l2
      → AddsPart x (Of Req) l2 l3 → AddsPart x (Of Ifreq) l3 l4 → AddsPart x (Of HoldError) l4 l5
      → AddsPart x (Of Orphan) l5 l6 → AddsPart x (IsOpen s survivors left x) l0 l6
  unfolding rank
  all_parts l0 l1 l2 l3 l4 l5 l6 fmid pre req ifreq hold orphan =
      same_part x (Among all_kinds) (IsOpen s survivors left x) l0 l6
      (λ kind z. (λ h. h.1, λ h. (asked_among kind z h, h)))
      (next_kind (HoldError ∷ Ifreq ∷ Req ∷ Pre ∷ Fmid ∷ []) Orphan l0 l5 l6
      (omega arith, (omega arith, (omega arith, (omega arith, (omega arith, tt)))))
      (next_kind (Ifreq ∷ Req ∷ Pre ∷ Fmid ∷ []) HoldError l0 l4 l5
      (omega arith, (omega arith, (omega arith, (omega arith, tt))))
      (next_kind (Req ∷ Pre ∷ Fmid ∷ []) Ifreq l0 l3 l4 (omega arith, (omega arith, (omega arith, tt)))
      (next_kind (Pre ∷ Fmid ∷ []) Req l0 l2 l3 (omega arith, (omega arith, tt))
      (next_kind (Fmid ∷ []) Pre l0 l1 l2 (omega arith, tt)
      (next_kind [] Fmid l0 l0 l1 tt (no_kind l0) fmid) pre) req) ifreq) hold) orphan)

-- the one at a place of ids that rise is none of those in front of it
apart : (xs : List Id) (k : ℕ) (x y : Id) → IsRising xs → k < length xs → x ≡ get_or xs k x → Contains (take k xs) y
    → y ≢ x
apart xs k x y rising below at in_front =
    let whole = subst (AllPairs Before) (sym (take-append-drop (k + 1) xs)) rising in
    let front = AllPairs_front Before (take (k + 1) xs) (drop (k + 1) xs) whole in
    let parts = AllPairs_parts Before (take k xs) [] x (subst (AllPairs Before) (front_more xs k x below at) front) in
    before_apart y x (All-contains (λ y. Before y x) (take k xs) y parts.0 in_front)
  where
    Before : Id → Id → Type 0
    Before y z = IsTrue (is_before y z)

module _ (s : Setting) (survivors : List Id) (left : Zone) where
  -- the next candidate
  pub needs_next : (xs : List Id) (k : ℕ) (x : Id) (old new : List RequisiteOf) → IsRising xs → k < length xs
      → x ≡ get_or xs k x → AddsPart x (IsOpen s survivors left x) old new
      → AreNeedsOf s survivors left (take k xs) old → AreNeedsOf s survivors left (take (k + 1) xs) new
  needs_next xs k x old new rising below at p w =
      subst (AreNeedsOf s survivors left (take (k + 1) xs)) (sym p.are)
      (alike _ _ (old ++ p.more) (λ y kind z. (
        λ h. elim h [
          | inl l ↦ ((front_in xs k x y below at).1 (inl l.0), l.1)
          | inr r ↦ (
            (front_in xs k x y below at).1 (inr r.0),
            subst (λ v. IsOpen s survivors left v kind z) (sym r.0) r.1,
          )
        ],
        λ h. elim ((front_in xs k x y below at).0 h.0) [
          | inl before ↦ inl (before, h.1)
          | inr same ↦ inr (same, subst (λ v. IsOpen s survivors left v kind z) same h.1)
        ],
      ))
      (join (λ y kind z. Contains (take k xs) y × IsOpen s survivors left y kind z)
      (λ y kind z. (y ≡ x) × IsOpen s survivors left x kind z) old p.more w p.needs
      (λ y kind z l r. apart xs k x y rising below at l.0 r.0)))

-- the FMID as a list of ids
pub one_of : (fmid : Option Id) (ids : List Id) → MatchOption fmid (ids ≡ []) (λ x. ids ≡ x ∷ [])
    → ids ≡ at_most_one fmid
one_of None ids is = is
one_of (Some x) ids is = is

pub one_rises : (fmid : Option Id) → IsRising (at_most_one fmid)
one_rises None = λ i j d less below. absurd (omega (arith, below))
one_rises (Some x) = λ i j d less below. absurd (omega (arith, less, below))

-- the same ids, in another list
pub same_asked : (zone : Zone) (b : Bypass) (kind : NeedKind) (of : Id) (xs ys : List Id) (old new : List RequisiteOf)
    → ((z : Id) → Contains xs z ↔ Contains ys z) → AddsPart of (IsOfKind zone b kind xs) old new
    → AddsPart of (IsOfKind zone b kind ys) old new
same_asked zone b kind of xs ys old new same part =
    same_part of (IsOfKind zone b kind xs) (IsOfKind zone b kind ys) old new (λ k z. (
      λ h. (h.0, (same z).0 h.1, h.2),
      λ h. (h.0, (same z).1 h.1, h.2),
    )) part
