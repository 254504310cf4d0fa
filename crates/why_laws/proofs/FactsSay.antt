-- What each fact of an id says, and which facts it has.
use Rattle.std.proofs.Common.{◌≡◌, ◌∙◌, ◌+◌, ℕ, suc, Bool, List, [], ◌∷◌, ◌++◌, Option, None, Some}
use Rattle.std.proofs.Common.{map, filter, Contains, inl, inr, refl, sym, ap, subst, arith, slice_get}
use Rattle.std.specs.Prelude.{◌==◌}
use Rattle.std.proofs.lemmas.List.Elements.{Contains-append_left, Contains-append_right, Contains-append_cases}
use Rattle.std.proofs.lemmas.Option.{same_Some}
use Rattle.terms.specs.Beside.{Beside}
use Rattle.terms.proofs.BesideLists.{beside_there}
use Rattle.terms.proofs.ListMembers.{here, there, here_or, none_in, in_map, map_in}
use Rattle.terms.proofs.Places.{contains_at, found_at}
use Rattle.terms.specs.Types.{Id, Ver, Hold, Change, Element}
use Rattle.terms.specs.Lookups.{is_in, at_most_one, changes_of, entry_of, element_of, is_applied, applied_ids}
use Rattle.terms.specs.Choice.{vers_of, fits, place, npre_of, del_of}
use Rattle.terms.specs.Over.{chain}
use Rattle.terms.specs.Changes.{is_replacement}
use Rattle.terms.specs.Deleted.{is_taken_out}
use Rattle.terms.specs.Tests.{Setting, view_of, has_candidate_base}
use Rattle.report.specs.Facts.{AreFacts, standing_facts, ver_facts, numbered_facts, Requisite, requisites, holds_on}
use Rattle.report.specs.Facts.{IsRequisiteFact, IsHoldFact, IsElementFact, IsResolution, HasResolution}
use Rattle.report.specs.Facts.{ElementLevel, IsElementLevel, HasElementLevel, delete_facts, npre_facts, forbids}
use Rattle.report.specs.Facts.{Fact, SupersederFact, EntryFact, VerFact, RequisiteFact, HoldFact, ElementFact}
use Rattle.report.specs.Facts.{DeleteFact, TakesFact, NpreFact, ForbiddenFact, NeededFact}

-- what stands beside a member, and what a member stands beside
pub beside_in : {X Y : Type 0} (R : ℕ → X → Y → Type 0) (xs : List X) (ys : List Y) → Beside R xs ys → (v : X)
    → Contains xs v → (w : Y) × (n : ℕ) × Contains ys w × R n v w
beside_in R xs ys beside v is =
    let at = found_at xs v is in
    let other = beside_there xs ys beside.lengths at.0 v at.1 in
    (other.0, at.0, contains_at ys at.0 other.0 other.1, beside.each at.0 v other.0 at.1 other.1)

pub in_beside : {X Y : Type 0} (R : ℕ → X → Y → Type 0) (xs : List X) (ys : List Y) → Beside R xs ys → (w : Y)
    → Contains ys w → (v : X) × (n : ℕ) × Contains xs v × R n v w
in_beside R xs ys beside w is =
    let at = found_at ys w is in
    let other = beside_there ys xs (sym beside.lengths) at.0 w at.1 in
    (other.0, at.0, contains_at xs at.0 other.0 other.1, beside.each at.0 other.0 w other.1 at.1)

-- ---- the ++VERs

numbered_say : (fit : Ver → Bool) (counts n : ℕ) (vs : List Ver) (f : Fact)
    → Contains (numbered_facts fit counts n vs) f
    → (k : ℕ) × (v : Ver) × (slice_get vs k ≡ Some v) × (VerFact (n + k) v.fmid (fit v) (n + k == counts) ≡ f)
numbered_say fit counts n [] f is = absurd (none_in f is)
numbered_say fit counts n (v ∷ vs) f is =
    elim (here_or (VerFact n v.fmid (fit v) (n == counts)) (numbered_facts fit counts (n + 1) vs) f is) [
      | inl same ↦
          let at : n + 0 ≡ n = omega arith in
          (0, v, refl, ap (λ m. VerFact m v.fmid (fit v) (m == counts)) at ∙ same)
      | inr later ↦
          let it = numbered_say fit counts (n + 1) vs f later in
          let at : n + suc it.0 ≡ (n + 1) + it.0 = omega arith in
          (suc it.0, it.1, it.2, ap (λ m. VerFact m it.1.fmid (fit it.1) (m == counts)) at ∙ it.3)
    ]

-- there is one for each
pub in_numbered : (fit : Ver → Bool) (counts n : ℕ) (vs : List Ver) (v : Ver) → Contains vs v
    → (k : ℕ) × Contains (numbered_facts fit counts n vs) (VerFact k v.fmid (fit v) (k == counts))
in_numbered fit counts n [] v is = absurd (none_in v is)
in_numbered fit counts n (w ∷ vs) v is =
    let first = VerFact n w.fmid (fit w) (n == counts) in
    let rest = numbered_facts fit counts (n + 1) vs in
    elim (here_or w vs v is) [
      | inl same ↦ (
        n,
        subst (λ (u : Ver). Contains (first ∷ rest) (VerFact n u.fmid (fit u) (n == counts))) same (here first rest),
      )
      | inr later ↦ let it = in_numbered fit counts (n + 1) vs v later in (it.0, there first rest _ it.1)
    ]

-- ---- all facts

-- what it says about x
abbrev pub Says : Setting → Id → Fact → Type 0
Says s x (VerFact n fmid fit counts) =
    (k : ℕ) × (v : Ver) × (n ≡ 1 + k) × (slice_get (vers_of s.global s.zone.srel x) k ≡ Some v) × (v.fmid ≡ fmid)
    × (fits s.zone (is_in s.cands) v ≡ fit)
Says s x (RequisiteFact r answer) = IsResolution s x r answer
Says s x (HoldFact h answer) = Contains (holds_on s.global x) h × HasResolution s x h h.kind answer
Says s x (ElementFact type name replaces brought level) =
    (h : Change) × Contains (changes_of s.global x) h × (h.elem_type ≡ type) × (h.name ≡ name)
    × (is_replacement h.action ≡ replaces) × (has_candidate_base s x type name ≡ brought)
    × HasElementLevel s x (element_of (view_of s x) type name) level
Says s x (DeleteFact z own) = Contains (del_of s.choice x) z × (is_in (chain s.global s.choice x) z ≡ own)
Says s x (NpreFact y applied) = Contains (npre_of s.choice x) y × (is_applied (view_of s x) y ≡ applied)
Says s x (ForbiddenFact y) = Contains (filter (forbids s x) (applied_ids (view_of s x))) y
Says s x _ = Unit {0}

module _ (s : Setting) (x : Id) (facts : List Fact) (are : AreFacts s x facts) where
  -- ---- the parts, each with those before it

  abbrev own : List Fact
  own = standing_facts s.global s.zone x ++ map SupersederFact are.superseders

  abbrev to_vers : List Fact
  to_vers = own ++ ver_facts s x

  abbrev to_asked : List Fact
  to_asked = to_vers ++ are.asked

  abbrev to_changes : List Fact
  to_changes = to_asked ++ are.changes

  abbrev whole : List Fact
  whole = to_changes ++ map NeededFact are.needed_by

  abbrev to_deletes : List Fact
  to_deletes = are.changes_are.of_elements ++ delete_facts s x

  -- ---- what they say

  own_say : (f : Fact) → Contains own f → Says s x f
  own_say f is =
      let entries = map (EntryFact s.zone.kind) (at_most_one (entry_of s.zone x)) in
      elim (Contains-append_cases (standing_facts s.global s.zone x) (map SupersederFact are.superseders) f is) [
        | inl standing ↦ elim (here_or _ entries f standing) [
          | inl same ↦ subst (Says s x) same tt
          | inr later ↦
              let m = map_in (EntryFact s.zone.kind) (at_most_one (entry_of s.zone x)) f later in
              subst (Says s x) m.2 tt
        ]
        | inr later ↦ let m = map_in SupersederFact are.superseders f later in subst (Says s x) m.2 tt
      ]

  vers_say : (f : Fact) → Contains (ver_facts s x) f → Says s x f
  vers_say f is =
      let it = numbered_say (fits s.zone (is_in s.cands)) (place s.global s.zone s.cands x + 1) 1
      (vers_of s.global s.zone.srel x) f is in
      subst (Says s x) it.3 (it.0, it.1, refl, it.2, refl, refl)

  asked_say : (f : Fact) → Contains are.asked f → Says s x f
  asked_say f is =
      let of = are.asked_are in
      elim (Contains-append_cases of.of_requisites of.of_holds f (subst (λ l. Contains l f) of.facts_are is)) [
        | inl first ↦
            let it = in_beside (λ n r fact. IsRequisiteFact s x r fact) (requisites s x of.orphans) of.of_requisites
            of.requisites_are f first in
            subst (Says s x) (sym it.3.1) it.3.2
        | inr later ↦
            let it = in_beside (λ n h fact. IsHoldFact s x h fact) (holds_on s.global x) of.of_holds of.holds_are f
            later in
            subst (Says s x) (sym it.3.1) (it.2, it.3.2)
      ]

  elements_say : (f : Fact) → Contains are.changes_are.of_elements f → Says s x f
  elements_say f is =
      let it = in_beside (λ n h fact. IsElementFact s x h fact) (changes_of s.global x) are.changes_are.of_elements
      are.changes_are.elements_are f is in
      subst (Says s x) (sym it.3.1) (it.0, it.2, refl, refl, refl, refl, it.3.2)

  deletes_say : (f : Fact) → Contains (delete_facts s x) f → Says s x f
  deletes_say f is =
      let named = map (λ z. DeleteFact z (is_in (chain s.global s.choice x) z)) (del_of s.choice x) in
      let taken = filter (is_taken_out s.global s.choice (del_of s.choice x) s.zone) (applied_ids s.zone) in
      elim (Contains-append_cases named (map TakesFact taken) f is) [
        | inl first ↦
            let m = map_in (λ z. DeleteFact z (is_in (chain s.global s.choice x) z)) (del_of s.choice x) f first in
            subst (Says s x) m.2 (m.1, refl)
        | inr later ↦ let m = map_in TakesFact taken f later in subst (Says s x) m.2 tt
      ]

  npre_say : (f : Fact) → Contains (npre_facts s x) f → Says s x f
  npre_say f is =
      let named = map (λ y. NpreFact y (is_applied (view_of s x) y)) (npre_of s.choice x) in
      let forbidding = filter (forbids s x) (applied_ids (view_of s x)) in
      elim (Contains-append_cases named (map ForbiddenFact forbidding) f is) [
        | inl first ↦
            let m = map_in (λ y. NpreFact y (is_applied (view_of s x) y)) (npre_of s.choice x) f first in
            subst (Says s x) m.2 (m.1, refl)
        | inr later ↦ let m = map_in ForbiddenFact forbidding f later in subst (Says s x) m.2 m.1
      ]

  changes_say : (f : Fact) → Contains are.changes f → Says s x f
  changes_say f is =
      let within = subst (λ l. Contains l f) are.changes_are.facts_are is in
      elim (Contains-append_cases to_deletes (npre_facts s x) f within) [
        | inl front ↦ elim (Contains-append_cases are.changes_are.of_elements (delete_facts s x) f front) [
          | inl first ↦ elements_say f first
          | inr later ↦ deletes_say f later
        ]
        | inr later ↦ npre_say f later
      ]

  pub says : (f : Fact) → Contains facts f → Says s x f
  says f is =
      let within = subst (λ l. Contains l f) are.facts_are is in
      elim (Contains-append_cases to_changes (map NeededFact are.needed_by) f within) [
        | inl a ↦ elim (Contains-append_cases to_asked are.changes f a) [
          | inl b ↦ elim (Contains-append_cases to_vers are.asked f b) [
            | inl c ↦ elim (Contains-append_cases own (ver_facts s x) f c) [
              | inl d ↦ own_say f d
              | inr d ↦ vers_say f d
            ]
            | inr c ↦ asked_say f c
          ]
          | inr b ↦ changes_say f b
        ]
        | inr a ↦ let m = map_in NeededFact are.needed_by f a in subst (Says s x) m.2 tt
      ]

  -- ---- which there are

  whole_is : (f : Fact) → Contains to_changes f → Contains facts f
  whole_is f is = subst (λ l. Contains l f) (sym are.facts_are)
      (Contains-append_left to_changes (map NeededFact are.needed_by) f is)

  pub has_ver : (f : Fact) → Contains (ver_facts s x) f → Contains facts f
  has_ver f is = whole_is f
      (Contains-append_left to_asked are.changes f
      (Contains-append_left to_vers are.asked f
      (Contains-append_right own (ver_facts s x) f is)))

  has_asked : (f : Fact) → Contains (are.asked_are.of_requisites ++ are.asked_are.of_holds) f → Contains facts f
  has_asked f is = whole_is f
      (Contains-append_left to_asked are.changes f
      (Contains-append_right to_vers are.asked f
      (subst (λ l. Contains l f) (sym are.asked_are.facts_are) is)))

  has_changes : (f : Fact) → Contains (to_deletes ++ npre_facts s x) f → Contains facts f
  has_changes f is = whole_is f
      (Contains-append_right to_asked are.changes f (subst (λ l. Contains l f) (sym are.changes_are.facts_are) is))

  pub has_requisite : (r : Requisite) → Contains (requisites s x are.asked_are.orphans) r
      → (f : Fact) × Contains facts f × IsRequisiteFact s x r f
  has_requisite r is =
      let it = beside_in (λ n r fact. IsRequisiteFact s x r fact) (requisites s x are.asked_are.orphans)
      are.asked_are.of_requisites are.asked_are.requisites_are r is in
      (it.0, has_asked it.0 (Contains-append_left are.asked_are.of_requisites are.asked_are.of_holds it.0 it.2), it.3)

  pub has_hold : (h : Hold) → Contains (holds_on s.global x) h → (f : Fact) × Contains facts f × IsHoldFact s x h f
  has_hold h is =
      let it = beside_in (λ n h fact. IsHoldFact s x h fact) (holds_on s.global x) are.asked_are.of_holds
      are.asked_are.holds_are h is in
      (it.0, has_asked it.0 (Contains-append_right are.asked_are.of_requisites are.asked_are.of_holds it.0 it.2), it.3)

  pub has_element : (h : Change) → Contains (changes_of s.global x) h
      → (f : Fact) × Contains facts f × IsElementFact s x h f
  has_element h is =
      let it = beside_in (λ n h fact. IsElementFact s x h fact) (changes_of s.global x) are.changes_are.of_elements
      are.changes_are.elements_are h is in (
        it.0,
        has_changes it.0 (Contains-append_left to_deletes (npre_facts s x) it.0
            (Contains-append_left are.changes_are.of_elements (delete_facts s x) it.0 it.2)),
        it.3,
      )

  pub has_delete : (z : Id) → Contains (del_of s.choice x) z
      → Contains facts (DeleteFact z (is_in (chain s.global s.choice x) z))
  has_delete z is = has_changes (DeleteFact z (is_in (chain s.global s.choice x) z))
      (Contains-append_left to_deletes (npre_facts s x) _
      (Contains-append_right are.changes_are.of_elements (delete_facts s x) _
      (Contains-append_left _ _ _
      (in_map (λ z. DeleteFact z (is_in (chain s.global s.choice x) z)) (del_of s.choice x) z is))))

  pub has_npre : (f : Fact) → Contains (npre_facts s x) f → Contains facts f
  has_npre f is = has_changes f (Contains-append_right to_deletes (npre_facts s x) f is)

-- ---- the level of an element

pub level_some : (s : Setting) (x : Id) (o : Option Element) (level : ElementLevel) → HasElementLevel s x o (Some level)
    → (e : Element) × (o ≡ Some e) × IsElementLevel s x e level
level_some s x None level has = absurd (cc has)
level_some s x (Some e) level has =
    (e, refl, subst (IsElementLevel s x e) (sym (same_Some level has.0 has.1)) has.2)

pub level_none : (s : Setting) (x : Id) (o : Option Element) → HasElementLevel s x o None → o ≡ None
level_none s x None has = refl
level_none s x (Some e) has = absurd (cc (has.1))
