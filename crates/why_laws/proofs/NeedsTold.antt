-- Each open need of a candidate has an answer among its facts, which witnesses it.
use Rattle.std.proofs.Common.{◌≡◌, ◌≢◌, ◌∙◌, ◌⊎◌, inl, inr, Bool, true, false, not, List, [], ◌∷◌, ◌++◌, Option}
use Rattle.std.proofs.Common.{None, Some, map, filter, Contains, refl, sym, ap, subst, subst₂, true≢false}
use Rattle.std.specs.Prelude.{◌↔◌, ◌&&◌, ◌||◌, ◌==◌, if◌then◌else◌}
use Rattle.std.specs.List.{flat_map}
use Rattle.std.specs.Str.{bytes_eq}
use Rattle.std.proofs.lemmas.Bool.{and_parts, and_from, or_left, or_right, not-true, not_from_false}
use Rattle.std.proofs.lemmas.List.{append-nil}
use Rattle.std.proofs.lemmas.List.Elements.{Contains-append_left, Contains-append_right, Contains-append_cases}
use Rattle.std.proofs.lemmas.Option.{same_Some}
use Rattle.terms.specs.declared.kinds.HoldKind.{HoldKind}
use Rattle.terms.specs.declared.kinds.HoldKind.TheVariants.{Error, System, User}
use Rattle.terms.specs.declared.codes.NeedKind.{NeedKind}
use Rattle.terms.specs.declared.codes.NeedKind.TheVariants.{Fmid, Pre, Req, Ifreq, HoldError, Orphan, Elem, Dep}
use Rattle.terms.specs.Types.{Id, IfReq, Hold, Global, Zone, hold_number}
use Rattle.terms.specs.Lookups.{IsZone, is_nil, is_in, is_function, holds_of, is_applied, is_supplied, supplies}
use Rattle.terms.specs.Lookups.{supby_of, applied_ids}
use Rattle.terms.specs.Choice.{Choice, ifs_of, del_of}
use Rattle.terms.specs.Conditions.{if_reqs}
use Rattle.terms.specs.Over.{chain}
use Rattle.terms.specs.Deleted.{deletions, is_deleted, is_taken_out}
use Rattle.terms.specs.Spelling.{need_text}
use Rattle.terms.specs.Tests.{Setting, view_of, is_bypassed_hold, standing_holds}
use Rattle.terms.specs.Needs.{asked, orphans, is_met, zone_left}
use Rattle.terms.proofs.Each.{All_from_each}
use Rattle.terms.proofs.Ids.{is_in_from_Contains, Contains_from_is_in}
use Rattle.terms.proofs.ListMembers.{here, there, here_or, none_in, in_map, map_in, in_filter, filter_in, in_flat}
use Rattle.terms.proofs.ListMembers.{flat_in}
use Rattle.terms.proofs.Searches.{some_passes, passes_some}
use Rattle.terms.proofs.TextOrder.{same_from, same_itself}
use Rattle.zones.proofs.Lookups.{is_applied_less, supby_of_less}
use Rattle.report.specs.Facts.{AreFacts, Requisite, a_requisite, requisites_of, requisites, stated_by, conditions_of}
use Rattle.report.specs.Facts.{conditions, is_waivable, suppliers, left_by, MayServe}
use Rattle.report.specs.Facts.{Resolution, Supplied, Waived, ByItself, Open, IsResolution, HasResolution}
use Rattle.report.specs.Facts.{Fact, RequisiteFact, HoldFact}
use Rattle.why_verdict.specs.Verdict.{answered, or_other, first_answer}
use Rattle.why_laws.specs.Witnesses.{IsTakenFrom, WitnessesNeed}
use Rattle.why_laws.proofs.FactsSay.{Says, says, has_requisite, has_hold}
use Rattle.why_laws.proofs.Printed.{if_in, member_some}

-- ---- kinds

-- no two kinds have one word
same_kind : (k l : NeedKind) → bytes_eq (need_text k) (need_text l) ≡ true → k ≡ l
same_kind Fmid Fmid is = refl
same_kind Pre Pre is = refl
same_kind Req Req is = refl
same_kind Ifreq Ifreq is = refl
same_kind HoldError HoldError is = refl
same_kind Orphan Orphan is = refl
same_kind Elem Elem is = refl
same_kind Dep Dep is = refl
same_kind k l is = absurd (true≢false (sym is))

-- ---- the first answer

-- some fact answers, and the first that does gives the answer
Answers : NeedKind → Id → List Fact → Type 0
Answers kind z facts = (f : Fact) × (a : Resolution) × Contains facts f × (answered kind z f ≡ Some a)
    × (first_answer kind z facts ≡ Some a)

first_gives : (kind : NeedKind) (z : Id) (facts : List Fact) (f : Fact) (a : Resolution) → Contains facts f
    → answered kind z f ≡ Some a → Answers kind z facts
unfolding Answers
first_gives kind z [] f a is gives = absurd (none_in f is)
first_gives kind z (w ∷ ws) f a is gives =
    by (answered kind z w) refl (λ later. first_gives kind z ws f a later gives)
  where
    by : (o : Option Resolution) → answered kind z w ≡ o → (Contains ws f → Answers kind z ws)
        → Answers kind z (w ∷ ws)
    by (Some b) at rest = (w, b, here w ws, at, ap (λ o. or_other o (first_answer kind z ws)) at)
    by None at rest = elim (here_or w ws f is) [
      | inl same ↦ absurd (cc (at, ap (answered kind z) same, gives))
      | inr later ↦
          let it = rest later in (
            it.0,
            it.1,
            there w ws it.0 it.2,
            it.3,
            ap (λ o. or_other o (first_answer kind z ws)) at ∙ it.4,
          )
    ]

-- ---- what is deleted

-- what several SYSMODs delete, one of them does
deleter_of : (g : Global) (c : Choice) (ids : List Id) (y : Id) → is_deleted g c (deletions c ids) y ≡ true
    → (w : Id) × Contains ids w × (is_deleted g c (del_of c w) y ≡ true)
deleter_of g c ids y deleted =
    let some = some_passes (λ v. is_in (deletions c ids) v) (chain g c y) deleted in
    let from = flat_in (del_of c) ids some.0 (Contains_from_is_in (deletions c ids) some.0 some.2) in (
      from.0,
      from.1,
      passes_some (λ v. is_in (del_of c from.0) v) (chain g c y) some.0 some.1
          (is_in_from_Contains (del_of c from.0) some.0 from.2),
    )

-- what x takes out by itself
deleted_by_one : (g : Global) (c : Choice) (x y : Id)
    → is_deleted g c (deletions c (x ∷ [])) y ≡ is_deleted g c (del_of c x) y
deleted_by_one g c x y = ap (λ dels. is_deleted g c dels y) (append-nil (del_of c x))

-- ---- what supplies z

-- what supplied it in one zone and does not in another
supplier_lost : (left after : Zone) (kind : NeedKind) (z y : Id) → Contains (suppliers left kind z) y
    → is_met after kind z ≡ false
    → ((z ≡ y) × (is_applied left z ≡ true) × (is_applied after z ≡ false))
    ⊎ (Contains (supby_of left z) y × (is_supplied after z ≡ false))
supplier_lost left after Fmid z y is unmet =
    let both = if_in (is_applied left z) (z ∷ []) y is in
    elim (here_or z [] y both.1) [
      | inl same ↦ inl (same, both.0, unmet)
      | inr later ↦ absurd (none_in y later)
    ]
supplier_lost left after kind z y is unmet = by is unmet
  where
    -- of a kind that takes those that supersede z too
    by : Contains ((if is_applied left z then z ∷ [] else []) ++ supby_of left z) y → is_supplied after z ≡ false
        → ((z ≡ y) × (is_applied left z ≡ true) × (is_applied after z ≡ false))
        ⊎ (Contains (supby_of left z) y × (is_supplied after z ≡ false))
    by is unmet = elim (Contains-append_cases (if is_applied left z then z ∷ [] else []) (supby_of left z) y is) [
      | inl itself ↦
          let both = if_in (is_applied left z) (z ∷ []) y itself in
          elim (here_or z [] y both.1) [
            | inl same ↦ inl (same, both.0, off (is_applied after z) (not (is_nil (supby_of after z))) unmet)
            | inr later ↦ absurd (none_in y later)
          ]
      | inr over ↦ inr (over, unmet)
    ]
      where
        off : (a b : Bool) → (a || b) ≡ false → a ≡ false
        off true b e = absurd (true≢false e)
        off false b e = refl

-- whatever meets a need has suppliers
met_by_some : (zone : Zone) (kind : NeedKind) (z : Id) → is_met zone kind z ≡ true → suppliers zone kind z ≢ []
met_by_some zone Fmid z met = by (is_applied zone z) met
  where
    by : (b : Bool) → b ≡ true → (if b then z ∷ [] else []) ≢ []
    by true is = member_some (z ∷ []) z (here z [])
    by false is = absurd (true≢false (sym is))
met_by_some zone kind z met = by (is_applied zone z) (supby_of zone z) met
  where
    by : (b : Bool) (ids : List Id) → (b || not (is_nil ids)) ≡ true → ((if b then z ∷ [] else []) ++ ids) ≢ []
    by true ids is = member_some ((z ∷ []) ++ ids) z (here z ids)
    by false [] is = absurd (true≢false (sym is))
    by false (y ∷ ys) is = member_some (y ∷ ys) y (here y ys)

-- y supersedes z just where it supplies it
superseder_supplies : (zone : Zone) (z y : Id) → is_applied zone y ≡ true → (z ≡ y) ⊎ Contains (supby_of zone z) y
    → supplies zone y z ≡ true
superseder_supplies zone z y on either =
    and_from (is_applied zone y) (bytes_eq y z || is_in (supby_of zone z) y) on (elim either [
      | inl same ↦ or_left (bytes_eq y z) (is_in (supby_of zone z) y)
          (subst (λ w. bytes_eq w z ≡ true) same (same_itself z))
      | inr over ↦ or_right (bytes_eq y z) (is_in (supby_of zone z) y) (is_in_from_Contains (supby_of zone z) y over)
    ])

module _ (s : Setting) (is_zone : IsZone s.zone) (survivors : List Id) (x : Id) where
  abbrev all : List Id
  all = deletions s.choice survivors

  abbrev own : List Id
  own = deletions s.choice (x ∷ [])

  abbrev cut : List Id → Id → Bool
  cut dels y = is_deleted s.global s.choice dels y

  -- what another survivor takes out, and x does not
  by_another : (z y : Id) → is_applied s.zone y ≡ true → (z ≡ y) ⊎ Contains (supby_of s.zone z) y → cut all y ≡ true
      → cut own y ≡ false → IsTakenFrom s survivors x z y
  by_another z y on supplies_it gone stays =
      let it = deleter_of s.global s.choice survivors y gone in (
        superseder_supplies s.zone z y on supplies_it,
        (
          it.0,
          it.1,
          λ same. true≢false (sym (subst (λ w. cut (del_of s.choice w) y ≡ true) same it.2)
              ∙ sym (deleted_by_one s.global s.choice x y) ∙ stays),
          and_from (is_applied s.zone y) (cut (del_of s.choice it.0) y) on it.2,
        ),
      )

  taken_from : (kind : NeedKind) (z y : Id) → Contains (suppliers (left_by s x) kind z) y
      → is_met (zone_left s survivors) kind z ≡ false → IsTakenFrom s survivors x z y
  taken_from kind z y is unmet = elim (supplier_lost (left_by s x) (zone_left s survivors) kind z y is unmet) [
    | inl itself ↦
        let was = and_parts (is_applied s.zone z) (not (cut own z))
        (sym (is_applied_less s.global s.choice own s.zone is_zone z) ∙ itself.1) in
        let gone : (is_applied s.zone z && not (cut all z)) ≡ false =
        sym (is_applied_less s.global s.choice all s.zone is_zone z) ∙ itself.2 in
        subst (IsTakenFrom s survivors x z) itself.0
        (by_another z z was.0 (inl refl) (cut_by (is_applied s.zone z) (cut all z) was.0 gone)
        (not-true (cut own z) was.1))
    | inr over ↦ superseding z y over.0 over.1
  ]
    where
      cut_by : (a b : Bool) → a ≡ true → (a && not b) ≡ false → b ≡ true
      cut_by true true on e = refl
      cut_by true false on e = absurd (true≢false e)
      cut_by false b on e = absurd (true≢false (sym on))

      -- y superseded z, and nothing does any more
      superseding : (z y : Id) → Contains (supby_of (left_by s x) z) y → is_supplied (zone_left s survivors) z ≡ false
          → IsTakenFrom s survivors x z y
      superseding z y over unmet =
          let was = filter_in (λ y. not (is_taken_out s.global s.choice own s.zone y)) (supby_of s.zone z) y
          (subst (λ ids. Contains ids y) (supby_of_less s.global s.choice own s.zone is_zone z) over) in
          let out : is_taken_out s.global s.choice all s.zone y ≡ true =
          gone (is_taken_out s.global s.choice all s.zone y) refl was.0 in
          let both = and_parts (is_applied s.zone y) (cut all y) out in
          let stays : (is_applied s.zone y && cut own y) ≡ false =
          not-true (is_taken_out s.global s.choice own s.zone y) was.1 in
          by_another z y both.0 (inr was.0) both.1 (kept (is_applied s.zone y) (cut own y) both.0 stays)
        where
          kept : (a b : Bool) → a ≡ true → (a && b) ≡ false → b ≡ false
          kept true b on e = e
          kept false b on e = absurd (true≢false (sym on))

          none : supby_of (zone_left s survivors) z ≡ []
          none = by (is_applied (zone_left s survivors) z) (supby_of (zone_left s survivors) z) unmet
            where
              by : (a : Bool) (ids : List Id) → (a || not (is_nil ids)) ≡ false → ids ≡ []
              by true ids e = absurd (true≢false e)
              by false [] e = refl
              by false (w ∷ ws) e = absurd (true≢false e)

          gone : (b : Bool) → is_taken_out s.global s.choice all s.zone y ≡ b → Contains (supby_of s.zone z) y
              → b ≡ true
          gone true at was = refl
          gone false at was = absurd (none_in y (subst (λ ids. Contains ids y)
              (sym (supby_of_less s.global s.choice all s.zone is_zone z) ∙ none)
              (in_filter (λ y. not (is_taken_out s.global s.choice all s.zone y)) (supby_of s.zone z) y was
              (not_from_false (is_taken_out s.global s.choice all s.zone y) at))))

  -- ---- the answer witnesses the need

  module _ (unapplied : is_applied s.zone x ≡ false) where
    pub answer_witnesses : (kind : NeedKind) (z : Id) → is_met (zone_left s survivors) kind z ≡ false → (r : Requisite)
        → r.kind ≡ kind → r.id ≡ z → (a : Resolution) → IsResolution s x r a → WitnessesNeed s survivors x kind z a
    answer_witnesses kind z unmet r of_kind of_id (Supplied ids) (met, are) =
        let met' : is_met (left_by s x) kind z ≡ true =
        subst₂ (λ k v. is_met (left_by s x) k v ≡ true) of_kind of_id met in
        let are' : ids ≡ suppliers (left_by s x) kind z =
        subst₂ (λ k v. ids ≡ suppliers (left_by s x) k v) of_kind of_id are in (
          subst (λ l. l ≢ []) (sym are') (met_by_some (left_by s x) kind z met'),
          All_from_each (IsTakenFrom s survivors x z) ids
              (λ y is. taken_from kind z y (subst (λ l. Contains l y) are' is) unmet),
        )
    answer_witnesses kind z unmet r of_kind of_id Waived (unmet', waived) =
        let on = and_parts (is_applied s.zone x) (is_waivable r.kind)
        (and_parts (is_applied s.zone x && is_waivable r.kind) _ waived).0 in
        true≢false (sym on.0 ∙ unapplied)
    answer_witnesses kind z unmet r of_kind of_id ByItself (unmet', waived, serves) =
        subst₂ (λ k v. MayServe s k v x) of_kind of_id serves
    answer_witnesses kind z unmet r of_kind of_id (Open ids) (unmet', waived, not_itself, rising, members) = (
      subst₂ (λ k v. ¬ MayServe s k v x) of_kind of_id not_itself,
      λ y. subst₂ (λ k v. Contains ids y ↔ MayServe s k v y) of_kind of_id (members y),
    )

-- what an answer says
answer_says : (s : Setting) (x : Id) (kind : NeedKind) (z : Id) (f : Fact) (a : Resolution) → Says s x f
    → answered kind z f ≡ Some a
    → (r : Requisite) × (r.kind ≡ kind) × (r.id ≡ z) × IsResolution s x r a
answer_says s x kind z (RequisiteFact r b) a says e =
    by (bytes_eq (need_text kind) (need_text r.kind) && bytes_eq z r.id) refl e
  where
    by : (c : Bool) → (bytes_eq (need_text kind) (need_text r.kind) && bytes_eq z r.id) ≡ c
        → (if c then Some b else None) ≡ Some a
        → (r : Requisite) × (r.kind ≡ kind) × (r.id ≡ z) × IsResolution s x r a
    by true is some =
        let both = and_parts (bytes_eq (need_text kind) (need_text r.kind)) (bytes_eq z r.id) is in (
          r,
          sym (same_kind kind r.kind both.0),
          sym (same_from z r.id both.1),
          subst (IsResolution s x r) (same_Some b a some) says,
        )
    by false is none = absurd (cc none)
answer_says s x kind z (HoldFact h o) a (is, has) e =
    by (bytes_eq (need_text kind) (need_text HoldError) && bytes_eq z h.reason) refl e
  where
    resolved : (k : HoldKind) → HasResolution s x h k o → o ≡ Some a
        → IsResolution s x (a_requisite HoldError x None h.reason) a
    resolved Error res some =
        subst (IsResolution s x (a_requisite HoldError x None h.reason)) (same_Some res.0 a (sym res.1 ∙ some)) res.2
    resolved System res some = absurd (cc (res, some))
    resolved User res some = absurd (cc (res, some))

    by : (c : Bool) → (bytes_eq (need_text kind) (need_text HoldError) && bytes_eq z h.reason) ≡ c
        → (if c then o else None) ≡ Some a
        → (r : Requisite) × (r.kind ≡ kind) × (r.id ≡ z) × IsResolution s x r a
    by true is some =
        let both = and_parts (bytes_eq (need_text kind) (need_text HoldError)) (bytes_eq z h.reason) is in (
          a_requisite HoldError x None h.reason,
          sym (same_kind kind HoldError both.0),
          sym (same_from z h.reason both.1),
          resolved h.kind has some,
        )
    by false is none = absurd (cc none)
answer_says s x kind z f a says e = absurd (cc e)

-- ---- some fact answers

when : {X : Type 0} (b : Bool) (v w : X) → b ≡ true → (if b then v else w) ≡ v
when true v w is = refl
when false v w is = absurd (true≢false (sym is))

module _ (s : Setting) (x : Id) (cand : Contains s.cands x) (facts : List Fact) (are : AreFacts s x facts) where
  abbrev IsAnswered : NeedKind → Id → Type 0
  IsAnswered kind z = (f : Fact) × (a : Resolution) × Contains facts f × (answered kind z f ≡ Some a)

  requisite_answered : (kind : NeedKind) (z : Id) (r : Requisite) → Contains (requisites s x are.asked_are.orphans) r
      → r.kind ≡ kind → r.id ≡ z → IsAnswered kind z
  requisite_answered kind z r is of_kind of_id =
      let it = has_requisite s x facts are r is in
      let matches : (bytes_eq (need_text kind) (need_text r.kind) && bytes_eq z r.id) ≡ true =
      and_from (bytes_eq (need_text kind) (need_text r.kind)) (bytes_eq z r.id)
      (subst (λ k. bytes_eq (need_text kind) (need_text k) ≡ true) (sym of_kind) (same_itself (need_text kind)))
      (subst (λ v. bytes_eq z v ≡ true) (sym of_id) (same_itself z)) in (
        it.0,
        it.2.0,
        it.1,
        ap (answered kind z) it.2.1
            ∙ when (bytes_eq (need_text kind) (need_text r.kind) && bytes_eq z r.id) (Some it.2.0) None matches,
      )

  -- a requisite by ++IF for this id
  abbrev HasIf : List Requisite → Id → Type 0
  HasIf rs z = (r : Requisite) × Contains rs r × (r.kind ≡ Ifreq) × (r.id ≡ z)

  stated : (is_there : Id → Bool) (y z : Id) → Contains (if_reqs s.choice is_there y) z
      → HasIf (conditions_of s.choice is_there y) z
  stated is_there y z is =
      let ifs = filter (λ (i : IfReq). is_there i.function) (ifs_of s.choice y) in
      let at = flat_in (λ (i : IfReq). i.req) ifs z is in (
        a_requisite Ifreq y (Some at.0.function) z,
        in_flat (stated_by y) ifs at.0 _ at.1 (in_map (a_requisite Ifreq y (Some at.0.function)) at.0.req z at.2),
        refl,
        refl,
      )

  abbrev present : Id → Bool
  present f = is_applied (view_of s x) f || is_in s.cands f

  -- what x states for itself it states for a candidate
  own_too : (ifs : List IfReq) (z : Id)
      → Contains (flat_map (λ (i : IfReq). i.req) (filter (λ (i : IfReq). bytes_eq x i.function) ifs)) z
      → Contains (flat_map (λ (i : IfReq). i.req) (filter (λ (i : IfReq). present i.function) ifs)) z
  own_too ifs z is =
      let at = flat_in (λ (i : IfReq). i.req) (filter (λ i. bytes_eq x i.function) ifs) z is in
      let both = filter_in (λ (i : IfReq). bytes_eq x i.function) ifs at.0 at.1 in
      let there : is_in s.cands at.0.function ≡ true = is_in_from_Contains s.cands at.0.function
      (subst (Contains s.cands) (same_from x at.0.function both.1) cand) in
      in_flat (λ (i : IfReq). i.req) (filter (λ i. present i.function) ifs) at.0 z
      (in_filter (λ (i : IfReq). present i.function) ifs at.0 both.0
      (or_right (is_applied (view_of s x) at.0.function) (is_in s.cands at.0.function) there)) at.2

  stated_if : (b : Bool) (ids : List Id) (z : Id)
      → Contains (if b then flat_map (if_reqs s.choice (bytes_eq x)) ids else []) z
      → Contains (if_reqs s.choice present x) z
      ⊎ HasIf (if b then flat_map (conditions_of s.choice (bytes_eq x)) (filter (λ y. not (bytes_eq x y)) ids)
      else []) z
  stated_if true ids z is =
      let at = flat_in (if_reqs s.choice (bytes_eq x)) ids z is in
      by at.0 at.1 at.2 (bytes_eq x at.0) refl
    where
      by : (y : Id) → Contains ids y → Contains (if_reqs s.choice (bytes_eq x) y) z → (b : Bool) → bytes_eq x y ≡ b
          → Contains (if_reqs s.choice present x) z
          ⊎ HasIf (flat_map (conditions_of s.choice (bytes_eq x)) (filter (λ y. not (bytes_eq x y)) ids)) z
      by y within has true e = inl (own_too (ifs_of s.choice x) z
          (subst (λ w. Contains (if_reqs s.choice (bytes_eq x) w) z) (sym (same_from x y e)) has))
      by y within has false e =
          let it = stated (bytes_eq x) y z has in
          inr (
            it.0,
            in_flat (conditions_of s.choice (bytes_eq x)) (filter (λ y. not (bytes_eq x y)) ids) y it.0
                (in_filter (λ y. not (bytes_eq x y)) ids y within (ap not e)) it.1,
            it.2,
            it.3,
          )
  stated_if false ids z is = absurd (none_in z is)

  by_condition : (z : Id) (survivors : List Id) → Contains (asked s survivors x Ifreq) z → HasIf (conditions s x) z
  by_condition z survivors is =
      let by_own : Contains (if_reqs s.choice present x) z → HasIf (conditions s x) z =
      λ first. let it = stated present x z first in (it.0, Contains-append_left _ _ it.0 it.1, it.2, it.3) in
      elim (Contains-append_cases (if_reqs s.choice present x) _ z is) [
        | inl first ↦ by_own first
        | inr later ↦ elim (stated_if (is_function s.global x) (applied_ids (view_of s x)) z later) [
          | inl first ↦ by_own first
          | inr it ↦ (it.0, Contains-append_right (conditions_of s.choice present x) _ it.0 it.1, it.2, it.3)
        ]
      ]

  -- ---- the parts of what x asks for, each with those before it

  abbrev to_pre : List Requisite
  to_pre = requisites_of s x Fmid ++ requisites_of s x Pre

  abbrev to_req : List Requisite
  to_req = to_pre ++ requisites_of s x Req

  abbrev to_ifreq : List Requisite
  to_ifreq = to_req ++ conditions s x

  abbrev lost : List Requisite
  lost = map (a_requisite Orphan x None) are.asked_are.orphans

  named_answered : (kind : NeedKind) (z : Id) → Contains to_req (a_requisite kind x None z) → IsAnswered kind z
  named_answered kind z is = requisite_answered kind z (a_requisite kind x None z)
      (Contains-append_left to_ifreq lost _ (Contains-append_left to_req (conditions s x) _ is)) refl refl

  one_of : (kind : NeedKind) (z : Id) → Contains (asked s (x ∷ []) x kind) z
      → Contains (requisites_of s x kind) (a_requisite kind x None z)
  one_of kind z is = in_map (a_requisite kind x None) (asked s (x ∷ []) x kind) z is

  error_answered : (h : Hold) → Contains (standing_holds s Error x) h → IsAnswered HoldError h.reason
  error_answered h is =
      let held = (filter_in (λ (h : Hold). not (is_bypassed_hold s.bypass h)) (holds_of s.global Error x) h is).0 in
      let on = Contains-append_left (holds_of s.global Error x ++ holds_of s.global System x)
      (holds_of s.global User x) h (Contains-append_left (holds_of s.global Error x) (holds_of s.global System x) h
      held) in
      let it = has_hold s x facts are h on in
      let of_kind = and_parts (bytes_eq h.id x) (hold_number h.kind == hold_number Error)
      (filter_in (λ (h : Hold). bytes_eq h.id x && (hold_number h.kind == hold_number Error)) s.global.holds h
      held).1 in
      let res = resolution h.kind of_kind.1 it.2.0 it.2.2 in (
        it.0,
        res.0,
        it.1,
        ap (answered HoldError h.reason) it.2.1
            ∙ when (bytes_eq (need_text HoldError) (need_text HoldError) && bytes_eq h.reason h.reason) it.2.0 None
            (and_from (bytes_eq (need_text HoldError) (need_text HoldError)) (bytes_eq h.reason h.reason)
            (same_itself (need_text HoldError)) (same_itself h.reason))
            ∙ res.1,
      )
    where
      resolution : (k : HoldKind) → (hold_number k == hold_number Error) ≡ true → (o : Option Resolution)
          → HasResolution s x h k o → (a : Resolution) × (o ≡ Some a)
      resolution Error is o has = (has.0, has.1)
      resolution System is o has = absurd (true≢false (sym is))
      resolution User is o has = absurd (true≢false (sym is))

  -- all that x asks for
  is_answered : (survivors : List Id) (kind : NeedKind) (z : Id) → Contains (asked s survivors x kind) z
      → IsAnswered kind z
  is_answered survivors Fmid z is = named_answered Fmid z
      (Contains-append_left to_pre (requisites_of s x Req) _
      (Contains-append_left (requisites_of s x Fmid) (requisites_of s x Pre) _ (one_of Fmid z is)))
  is_answered survivors Pre z is = named_answered Pre z
      (Contains-append_left to_pre (requisites_of s x Req) _
      (Contains-append_right (requisites_of s x Fmid) (requisites_of s x Pre) _ (one_of Pre z is)))
  is_answered survivors Req z is = named_answered Req z
      (Contains-append_right to_pre (requisites_of s x Req) _ (one_of Req z is))
  is_answered survivors Ifreq z is =
      let it = by_condition z survivors is in
      requisite_answered Ifreq z it.0 (Contains-append_left to_ifreq lost it.0
      (Contains-append_right to_req (conditions s x) it.0 it.1)) it.2 it.3
  is_answered survivors HoldError z is =
      let m = map_in (λ (h : Hold). h.reason) (standing_holds s Error x) z is in
      subst (IsAnswered HoldError) m.2 (error_answered m.0 m.1)
  is_answered survivors Orphan z is =
      let own = (if_in (is_in survivors x) (orphans s x) z is).1 in
      let asks : Contains (asked s (x ∷ []) x Orphan) z =
      subst (λ ids. Contains ids z) (sym (when (is_in (x ∷ []) x) (orphans s x) [] (is_in_from_Contains (x ∷ []) x
      (here x [])))) own in
      requisite_answered Orphan z (a_requisite Orphan x None z) (Contains-append_right to_ifreq lost _
      (in_map (a_requisite Orphan x None) are.asked_are.orphans z ((are.asked_are.orphans_are.members z).1 asks)))
      refl refl
  is_answered survivors Elem z is = absurd (none_in z is)
  is_answered survivors Dep z is = absurd (none_in z is)

  -- So a need has an answer, which witnesses it.
  pub need_witnessed : IsZone s.zone → is_applied s.zone x ≡ false → (survivors : List Id) (kind : NeedKind) (z : Id)
      → Contains (asked s survivors x kind) z → is_met (zone_left s survivors) kind z ≡ false
      → (a : Resolution) × (first_answer kind z facts ≡ Some a) × WitnessesNeed s survivors x kind z a
  unfolding Answers
  need_witnessed is_zone unapplied survivors kind z asks unmet =
      let some = is_answered survivors kind z asks in
      let first = first_gives kind z facts some.0 some.1 some.2 some.3 in
      let it = answer_says s x kind z first.0 first.1 (says s x facts are first.0 first.2) first.3 in
      (first.1, first.4, answer_witnesses s is_zone survivors x unapplied kind z unmet it.0 it.1 it.2 first.1 it.3)
