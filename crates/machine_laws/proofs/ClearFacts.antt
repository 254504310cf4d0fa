-- What clear facts say of the id.
use Rattle.std.proofs.Common.{◌≡◌, ◌∙◌, ◌⊎◌, ◌+◌, ◌&&◌, ◌||◌, Bool, true, false, not, ℕ, List, [], ◌∷◌, ◌++◌}
use Rattle.std.proofs.Common.{Option, None, Some, map, filter, length, inl, inr, refl, suc, sym, ap, subst, true≢false}
use Rattle.std.specs.Prelude.{All, Contains, IsTrue, cond, is_some, if◌then◌else◌, ◌==◌}
use Rattle.std.specs.List.{flat_map, list_all, AllByRecursion}
use Rattle.std.specs.Option.{option_map_or}
use Rattle.std.proofs.lemmas.List.{append-nil}
use Rattle.std.specs.Str.{bytes_eq}
use Rattle.std.proofs.lemmas.Bool.{and_parts, or_right}
use Rattle.std.proofs.lemmas.List.Elements.{All-append, All-contains, All-head, All-from_recursion, filter-append}
use Rattle.std.proofs.lemmas.List.Elements.{Contains-append_left, Contains-append_right, Contains-append_cases}
use Rattle.terms.specs.Beside.{Beside}
use Rattle.terms.proofs.BesideLists.{beside_there}
use Rattle.terms.proofs.Each.{All_from_each, All_front, All_back}
use Rattle.terms.proofs.ListMembers.{here, none_in, in_map, map_in, in_filter, filter_in, flat_in, in_flat}
use Rattle.terms.proofs.Places.{contains_at, found_at}
use Rattle.terms.proofs.Searches.{filter_none, passes_all, some_passes}
use Rattle.terms.proofs.TextOrder.{same_from}
use Rattle.terms.specs.declared.kinds.HoldKind.{HoldKind}
use Rattle.terms.specs.declared.kinds.HoldKind.TheVariants.{Error, System, User}
use Rattle.terms.specs.declared.kinds.ElemType.{ElemType}
use Rattle.terms.specs.declared.kinds.ZoneKind.{ZoneKind}
use Rattle.terms.specs.declared.codes.NeedKind.{NeedKind}
use Rattle.terms.specs.declared.codes.NeedKind.TheVariants.{Fmid, Pre, Req, Ifreq, HoldError, Orphan, Elem, Dep}
use Rattle.terms.specs.Types.{Text, Id, Ver, IfReq, Hold, Change, Global, Element, Zone, Entry, hold_number}
use Rattle.terms.specs.Lookups.{is_nil, is_in, is_received, is_function, changes_of, change_of, has_change, holds_of}
use Rattle.terms.specs.Lookups.{entry_of, element_of, is_applied, supby_of, delby_of, applied_ids, at_most_one}
use Rattle.terms.specs.Choice.{vers_of, fits, ifs_of, npre_of, del_of}
use Rattle.terms.specs.Conditions.{if_reqs}
use Rattle.terms.specs.Over.{IsOver, chain}
use Rattle.terms.specs.Changes.{is_replacement, has_update}
use Rattle.terms.specs.Deleted.{is_deleted}
use Rattle.terms.specs.Tests.{Setting, view_of, owner_of, standing_holds, is_bypassed_hold}
use Rattle.terms.specs.Needs.{asked, is_met}
use Rattle.report.specs.Facts.{AreFacts, alone, standing_facts, ver_facts, numbered_facts, Requisite, requisites}
use Rattle.report.specs.Facts.{requisites_of, a_requisite, stated_by, conditions_of, conditions}
use Rattle.report.specs.Facts.{left_by, IsResolution, Resolution}
use Rattle.report.specs.Facts.{Supplied, Waived, ByItself, Open, Relation, Itself, Over, NotOver, IsRelation, Maker}
use Rattle.report.specs.Facts.{ElementLevel, IsElementLevel, HasElementLevel}
use Rattle.report.specs.Facts.{Fact, SupersederFact, EntryFact, VerFact, DeleteFact}
use Rattle.report.specs.Facts.{TakesFact, NpreFact, ForbiddenFact, NeededFact, HasResolution}
use Rattle.report.specs.Facts.{StandsApplied, StandsSuperseded, StandsDeleted, StandsReceived, StandsMissing, holds_on}
use Rattle.report.specs.Facts.{delete_facts, npre_facts, forbids}
use Rattle.terms.proofs.Applied.{in_applied_ids}
use Rattle.terms.proofs.ChangedElements.{change_there, change_found}
use Rattle.terms.proofs.Ids.{is_in_from_Contains, Contains_from_is_in}
use Rattle.report.specs.Facts.{is_over}
use Rattle.machine_laws.specs.Clear.{AreClear, is_clear, is_fitting, is_free, is_received_alone, is_resolved}
use Rattle.machine_laws.specs.Clear.{is_supplied}

never : {A : Type 0} → false ≡ true → A
never e = absurd (true≢false (sym e))

-- what stands beside a member passes with all the others
beside_passes : {X Y : Type 0} (R : ℕ → X → Y → Type 0) (P : Y → Type 0) (xs : List X) (ys : List Y) → Beside R xs ys
    → All P ys → (v : X) → Contains xs v → (n : ℕ) × (w : Y) × R n v w × P w
beside_passes R P xs ys beside all v is =
    let at = found_at xs v is in
    let other = beside_there xs ys beside.lengths at.0 v at.1 in (
      at.0,
      other.0,
      beside.each at.0 v other.0 at.1 other.1,
      All-contains P ys other.0 all (contains_at ys at.0 other.0 other.1),
    )

-- all that stand beside something
beside_all : {X Y : Type 0} (R : ℕ → X → Y → Type 0) (P : Y → Type 0) (xs : List X) (ys : List Y) → Beside R xs ys
    → ((n : ℕ) (v : X) (w : Y) → R n v w → P w) → All P ys
beside_all R P xs ys beside each = All_from_each P ys (λ w is.
    let at = found_at ys w is in
    let other = beside_there ys xs (sym beside.lengths) at.0 w at.1 in
    each at.0 other.0 w (beside.each at.0 other.0 w other.1 at.1))

all_mapped : {X Y : Type 0} (P : Y → Type 0) (f : X → Y) → ((v : X) → P (f v)) → (xs : List X) → All P (map f xs)
all_mapped P f each xs = All_from_each P (map f xs) (λ w is. let m = map_in f xs w is in subst P m.2 (each m.0))

-- a list without members
nil_without : {X : Type 0} (xs : List X) → ((v : X) → Contains xs v → ⊥) → xs ≡ []
nil_without [] none = refl
nil_without (v ∷ vs) none = absurd (none v (here v vs))

-- ---- where it stands

received_alone : (a b c d : Bool) (kind : ZoneKind)
    → is_received_alone (if a then StandsApplied kind else if not b then StandsSuperseded else if c then StandsDeleted
    else if d then StandsReceived else StandsMissing) ≡ true → (a ≡ false) × (b ≡ true) × (c ≡ false)
received_alone true b c d kind ok = never ok
received_alone false false c d kind ok = never ok
received_alone false true true d kind ok = never ok
received_alone false true false true kind ok = (refl, refl, refl)
received_alone false true false false kind ok = never ok

-- ---- the ++VERs that fit

fitting_vers : (fit : Ver → Bool) (c n : ℕ) (vs : List Ver)
    → length (filter is_fitting (numbered_facts fit c n vs)) ≡ length (filter fit vs)
fitting_vers fit c n [] = refl
fitting_vers fit c n (v ∷ vs) = by (fit v) (fitting_vers fit c (n + 1) vs)
  where
    by : (b : Bool) → length (filter is_fitting (numbered_facts fit c (n + 1) vs)) ≡ length (filter fit vs)
        → length (cond b (VerFact n v.fmid b (n == c) ∷ filter is_fitting (numbered_facts fit c (n + 1) vs))
        (filter is_fitting (numbered_facts fit c (n + 1) vs))) ≡ length (cond b (v ∷ filter fit vs) (filter fit vs))
    by true e = ap suc e
    by false e = e

module _ (g : Global) (zone : Zone) (x : Id) (facts : List Fact) (are : AreFacts (alone g zone x) x facts)
    (clear : AreClear facts) where
  abbrev s : Setting
  s = alone g zone x

  abbrev Clear : Fact → Type 0
  Clear f = IsTrue (is_clear f)

  -- ---- the parts, each with those before it

  abbrev to_superseders : List Fact
  to_superseders = standing_facts g zone x ++ map SupersederFact are.superseders

  abbrev to_vers : List Fact
  to_vers = to_superseders ++ ver_facts s x

  abbrev to_asked : List Fact
  to_asked = to_vers ++ are.asked

  abbrev to_changes : List Fact
  to_changes = to_asked ++ are.changes

  abbrev to_deletes : List Fact
  to_deletes = are.changes_are.of_elements ++ delete_facts s x

  changes_within : All Clear to_changes
  changes_within = All_front Clear to_changes (map NeededFact are.needed_by)
      (subst (All Clear) are.facts_are clear.each)

  npre_within : All Clear (to_deletes ++ npre_facts s x)
  npre_within = subst (All Clear) are.changes_are.facts_are (All_back Clear to_asked are.changes changes_within)

  npre_clear : All Clear (npre_facts s x)
  npre_clear = All_back Clear to_deletes (npre_facts s x) npre_within

  deletes_within : All Clear to_deletes
  deletes_within = All_front Clear to_deletes (npre_facts s x) npre_within

  deletes_clear : All Clear (delete_facts s x)
  deletes_clear = All_back Clear are.changes_are.of_elements (delete_facts s x) deletes_within

  elements_clear : All Clear are.changes_are.of_elements
  elements_clear = All_front Clear are.changes_are.of_elements (delete_facts s x) deletes_within

  asked_within : All Clear to_asked
  asked_within = All_front Clear to_asked are.changes changes_within

  holds_within : All Clear (are.asked_are.of_requisites ++ are.asked_are.of_holds)
  holds_within = subst (All Clear) are.asked_are.facts_are (All_back Clear to_vers are.asked asked_within)

  holds_clear : All Clear are.asked_are.of_holds
  holds_clear = All_back Clear are.asked_are.of_requisites are.asked_are.of_holds holds_within

  requisites_clear : All Clear are.asked_are.of_requisites
  requisites_clear = All_front Clear are.asked_are.of_requisites are.asked_are.of_holds holds_within

  standing_clear : All Clear (standing_facts g zone x)
  standing_clear = All_front Clear (standing_facts g zone x) (map SupersederFact are.superseders)
      (All_front Clear to_superseders (ver_facts s x) (All_front Clear to_vers are.asked asked_within))

  -- ---- where it stands

  pub stands : (is_applied zone x ≡ false) × (is_nil (supby_of zone x) ≡ true) × (is_some (delby_of zone x) ≡ false)
  stands = received_alone (is_applied zone x) (is_nil (supby_of zone x)) (is_some (delby_of zone x)) (is_received g x)
      zone.kind (All-head Clear _ _ standing_clear)

  -- ---- the ++VERs

  abbrev Other : Fact → Type 0
  Other f = is_fitting f ≡ false

  standing_other : All Other (standing_facts g zone x)
  standing_other = All-from_recursion Other (standing_facts g zone x) (refl, entry (entry_of zone x))
    where
      entry : (o : Option Entry) → AllByRecursion Other (map (EntryFact zone.kind) (at_most_one o))
      entry None = tt
      entry (Some e) = (refl, tt)

  superseders_other : All Other to_superseders
  superseders_other = All-append Other (standing_facts g zone x) (map SupersederFact are.superseders) standing_other
      (all_mapped Other SupersederFact (λ y. refl) are.superseders)

  -- what does not fit behind others
  none_fits : (front back : List Fact) → All Other back → filter is_fitting (front ++ back) ≡ filter is_fitting front
  none_fits front back other = filter-append is_fitting front back
      ∙ ap (λ l. filter is_fitting front ++ l) (filter_none is_fitting back other)
      ∙ append-nil (filter is_fitting front)

  deletes_other : All Other (delete_facts s x)
  deletes_other = All-append Other (map (λ z. DeleteFact z (is_in (chain g s.choice x) z)) (del_of s.choice x)) _
      (all_mapped Other (λ z. DeleteFact z (is_in (chain g s.choice x) z)) (λ z. refl) (del_of s.choice x))
      (all_mapped Other TakesFact (λ z. refl) _)

  npre_other : All Other (npre_facts s x)
  npre_other = All-append Other (map (λ y. NpreFact y (is_applied (view_of s x) y)) (npre_of s.choice x)) _
      (all_mapped Other (λ y. NpreFact y (is_applied (view_of s x) y)) (λ z. refl) (npre_of s.choice x))
      (all_mapped Other ForbiddenFact (λ z. refl) _)

  changes_other : All Other are.changes
  changes_other = subst (All Other) (sym are.changes_are.facts_are)
      (All-append Other to_deletes (npre_facts s x)
      (All-append Other are.changes_are.of_elements (delete_facts s x)
      (beside_all _ Other _ _ are.changes_are.elements_are (λ n h f is. ap is_fitting is.1)) deletes_other) npre_other)

  asked_other : All Other are.asked
  asked_other = subst (All Other) (sym are.asked_are.facts_are)
      (All-append Other are.asked_are.of_requisites are.asked_are.of_holds
      (beside_all _ Other _ _ are.asked_are.requisites_are (λ n r f is. ap is_fitting is.1))
      (beside_all _ Other _ _ are.asked_are.holds_are (λ n h f is. ap is_fitting is.1)))

  all_fitting : filter is_fitting facts ≡ filter is_fitting (ver_facts s x)
  all_fitting = ap (filter is_fitting) are.facts_are
      ∙ none_fits to_changes (map NeededFact are.needed_by) (all_mapped Other NeededFact (λ z. refl) are.needed_by)
      ∙ none_fits to_asked are.changes changes_other
      ∙ none_fits to_vers are.asked asked_other
      ∙ filter-append is_fitting to_superseders (ver_facts s x)
      ∙ ap (λ l. l ++ filter is_fitting (ver_facts s x)) (filter_none is_fitting to_superseders superseders_other)

  pub one_fits : length (filter (fits zone (is_in (x ∷ []))) (vers_of g zone.srel x)) ≡ 1
  one_fits = sym (fitting_vers (fits zone (is_in (x ∷ []))) _ 1 (vers_of g zone.srel x)) ∙ sym (ap length all_fitting)
      ∙ clear.fitting

  -- ---- the holds

  resolved : (h : Hold) (kind : HoldKind) (o : Option Resolution) → HasResolution s x h kind o → is_resolved o ≡ true
      → (kind ≡ Error) × ((a : Resolution) × IsResolution s x (a_requisite HoldError x None h.reason) a
      × (is_supplied a ≡ true))
  resolved h Error o res ok = (refl, (res.0, res.2, sym (ap is_resolved res.1) ∙ ok))
  resolved h System o res ok = never (sym (ap is_resolved res) ∙ ok)
  resolved h User o res ok = never (sym (ap is_resolved res) ∙ ok)

  on_hold : (h : Hold) → Contains (holds_on g x) h → (h.kind ≡ Error)
      × ((a : Resolution) × IsResolution s x (a_requisite HoldError x None h.reason) a × (is_supplied a ≡ true))
  on_hold h is =
      let it = beside_passes _ Clear (holds_on g x) are.asked_are.of_holds are.asked_are.holds_are holds_clear h is in
      resolved h h.kind it.2.0 it.2.2 (sym (ap is_clear it.2.1) ∙ it.3)

  of_kind : (kind : HoldKind) (h : Hold) → Contains (holds_of g kind x) h
      → (hold_number h.kind == hold_number kind) ≡ true
  of_kind kind h is = (and_parts _ _ (filter_in _ g.holds h is).1).1

  pub no_system : holds_of g System x ≡ []
  no_system = nil_without (holds_of g System x) (λ h is.
      let error = (on_hold h (Contains-append_left (holds_of g Error x ++ holds_of g System x) (holds_of g User x) h
      (Contains-append_right (holds_of g Error x) (holds_of g System x) h is))).0 in
      never (sym (ap (λ k. hold_number k == hold_number System) error) ∙ of_kind System h is))

  pub no_user : holds_of g User x ≡ []
  no_user = nil_without (holds_of g User x) (λ h is.
      let error =
      (on_hold h (Contains-append_right (holds_of g Error x ++ holds_of g System x) (holds_of g User x) h is)).0 in
      never (sym (ap (λ k. hold_number k == hold_number User) error) ∙ of_kind User h is))

  -- ---- what it asks for

  answered : (r : Requisite) (a : Resolution) → IsResolution s x r a → is_supplied a ≡ true
      → IsTrue (is_met (left_by s x) r.kind r.id)
  answered r (Supplied ids) answer ok = answer.0
  answered r Waived answer ok = never ok
  answered r ByItself answer ok = never ok
  answered r (Open ids) answer ok = never ok

  supplied : (r : Requisite) → Contains (requisites s x are.asked_are.orphans) r
      → IsTrue (is_met (left_by s x) r.kind r.id)
  supplied r is =
      let it = beside_passes _ Clear (requisites s x are.asked_are.orphans) are.asked_are.of_requisites
      are.asked_are.requisites_are requisites_clear r is in
      answered r it.2.0 it.2.2 (sym (ap is_clear it.2.1) ∙ it.3)

  -- a requisite by ++IF for this id
  abbrev Has : List Requisite → Id → Type 0
  Has rs z = (r : Requisite) × Contains rs r × (r.kind ≡ Ifreq) × (r.id ≡ z)

  stated : (is_there : Id → Bool) (y z : Id) → Contains (if_reqs s.choice is_there y) z
      → Has (conditions_of s.choice is_there y) z
  stated is_there y z is =
      let ifs = filter (λ (i : IfReq). is_there i.function) (ifs_of s.choice y) in
      let at = flat_in (λ (i : IfReq). i.req) ifs z is in (
        a_requisite Ifreq y (Some at.0.function) z,
        in_flat (stated_by y) ifs at.0 _ at.1 (in_map (a_requisite Ifreq y (Some at.0.function)) at.0.req z at.2),
        refl,
        refl,
      )

  -- what x states for itself it states for a function that is there
  own_too : (ifs : List IfReq) (z : Id) → Contains (flat_map (λ i. i.req) (filter (λ i. bytes_eq x i.function) ifs)) z
      → Contains (flat_map (λ i. i.req) (filter (λ i. is_applied (view_of s x) i.function || is_in (x ∷ []) i.function)
      ifs)) z
  own_too ifs z is =
      let at = flat_in (λ (i : IfReq). i.req) (filter (λ i. bytes_eq x i.function) ifs) z is in
      let both = filter_in (λ (i : IfReq). bytes_eq x i.function) ifs at.0 at.1 in
      let there : is_in (x ∷ []) at.0.function ≡ true =
      is_in_from_Contains (x ∷ []) at.0.function
      (subst (Contains (x ∷ [])) (same_from x at.0.function both.1) (here x [])) in
      in_flat (λ (i : IfReq). i.req) _ at.0 z (in_filter _ ifs at.0 both.0 (or_right _ _ there)) at.2

  stated_if : (b : Bool) (ids : List Id) (z : Id)
      → Contains (if b then flat_map (if_reqs s.choice (bytes_eq x)) ids else []) z
      → Contains (if_reqs s.choice (λ f. is_applied (view_of s x) f || is_in (x ∷ []) f) x) z
      ⊎ Has (if b then flat_map (conditions_of s.choice (bytes_eq x)) (filter (λ y. not (bytes_eq x y)) ids) else []) z
  stated_if true ids z is =
      let at = flat_in (if_reqs s.choice (bytes_eq x)) ids z is in
      by at.0 at.1 at.2 (bytes_eq x at.0) refl
    where
      by : (y : Id) → Contains ids y → Contains (if_reqs s.choice (bytes_eq x) y) z → (b : Bool) → bytes_eq x y ≡ b
          → Contains (if_reqs s.choice (λ f. is_applied (view_of s x) f || is_in (x ∷ []) f) x) z
          ⊎ Has (flat_map (conditions_of s.choice (bytes_eq x)) (filter (λ y. not (bytes_eq x y)) ids)) z
      by y within has true e = inl (own_too (ifs_of s.choice x) z
          (subst (λ w. Contains (if_reqs s.choice (bytes_eq x) w) z) (sym (same_from x y e)) has))
      by y within has false e =
          let it = stated (bytes_eq x) y z has in
          inr (
            it.0,
            in_flat (conditions_of s.choice (bytes_eq x)) _ y it.0
                (in_filter (λ y. not (bytes_eq x y)) ids y within (ap not e)) it.1,
            it.2,
            it.3,
          )
  stated_if false ids z is = absurd (none_in z is)

  by_condition : (z : Id) → Contains (asked s (x ∷ []) x Ifreq) z → Has (conditions s x) z
  by_condition z is =
      let own : Id → Bool = λ f. is_applied (view_of s x) f || is_in (x ∷ []) f in
      let by_own : Contains (if_reqs s.choice own x) z → Has (conditions s x) z =
      λ first. let it = stated own x z first in (it.0, Contains-append_left _ _ it.0 it.1, it.2, it.3) in
      elim (Contains-append_cases (if_reqs s.choice own x) _ z is) [
        | inl first ↦ by_own first
        | inr later ↦ elim (stated_if (is_function g x) (applied_ids (view_of s x)) z later) [
          | inl first ↦ by_own first
          | inr it ↦ (it.0, Contains-append_right (conditions_of s.choice own x) _ it.0 it.1, it.2, it.3)
        ]
      ]

  one_of : (kind : NeedKind) (z : Id) → Contains (asked s (x ∷ []) x kind) z
      → Contains (requisites_of s x kind) (a_requisite kind x None z)
  one_of kind z is = in_map (a_requisite kind x None) (asked s (x ∷ []) x kind) z is

  abbrev lost : List Requisite
  lost = map (a_requisite Orphan x None) are.asked_are.orphans

  abbrev named : List Requisite
  named = requisites_of s x Fmid ++ requisites_of s x Pre ++ requisites_of s x Req

  by_name : (r : Requisite) → Contains named r → IsTrue (is_met (left_by s x) r.kind r.id)
  by_name r is = supplied r (Contains-append_left (named ++ conditions s x) lost r
      (Contains-append_left named (conditions s x) r is))

  -- all is met
  pub met : (kind : NeedKind) (z : Id) → Contains (asked s (x ∷ []) x kind) z → IsTrue (is_met (left_by s x) kind z)
  met Fmid z is = by_name (a_requisite Fmid x None z)
      (Contains-append_left (requisites_of s x Fmid ++ requisites_of s x Pre) (requisites_of s x Req) _
      (Contains-append_left (requisites_of s x Fmid) (requisites_of s x Pre) _ (one_of Fmid z is)))
  met Pre z is = by_name (a_requisite Pre x None z)
      (Contains-append_left (requisites_of s x Fmid ++ requisites_of s x Pre) (requisites_of s x Req) _
      (Contains-append_right (requisites_of s x Fmid) (requisites_of s x Pre) _ (one_of Pre z is)))
  met Req z is = by_name (a_requisite Req x None z)
      (Contains-append_right (requisites_of s x Fmid ++ requisites_of s x Pre) (requisites_of s x Req) _
      (one_of Req z is))
  met Ifreq z is =
      let it = by_condition z is in
      subst (λ k. IsTrue (is_met (left_by s x) k z)) it.2
      (subst (λ v. IsTrue (is_met (left_by s x) it.0.kind v)) it.3
      (supplied it.0 (Contains-append_left (named ++ conditions s x) lost it.0
      (Contains-append_right named (conditions s x) it.0 it.1))))
  met HoldError z is =
      let m = map_in (λ (h : Hold). h.reason) (standing_holds s Error x) z is in
      let on = on_hold m.0 (Contains-append_left (holds_of g Error x ++ holds_of g System x) (holds_of g User x) m.0
      (Contains-append_left (holds_of g Error x) (holds_of g System x) m.0
      (filter_in (λ h. not (is_bypassed_hold s.bypass h)) (holds_of g Error x) m.0 m.1).0)) in
      subst (λ v. IsTrue (is_met (left_by s x) HoldError v)) m.2
      (answered (a_requisite HoldError x None m.0.reason) on.1.0 on.1.1 on.1.2)
  met Orphan z is = supplied (a_requisite Orphan x None z)
      (Contains-append_right (named ++ conditions s x) lost _
      (in_map (a_requisite Orphan x None) are.asked_are.orphans z ((are.asked_are.orphans_are.members z).1 is)))
  met Elem z is = absurd (none_in z is)
  met Dep z is = absurd (none_in z is)

  -- ---- the elements

  abbrev OwnAndOver : Element → Type 0
  OwnAndOver e = (e.fmid ≡ owner_of s x) × ((z : Id) → Contains (e.rmid ∷ e.umids) z → IsOver s.choice x z)

  over : (z : Id) (r : Relation) → IsRelation s.choice x z r → is_over r ≡ true → IsOver s.choice x z
  over z Itself is ok = never ok
  over z Over is ok = is.1
  over z NotOver is ok = never ok

  found : (e : Element) (f : ElementLevel) → IsElementLevel s x e f → is_free true (Some f) ≡ true → OwnAndOver e
  found e f is ok =
      let parts = and_parts f.owned (list_all (λ (m : Maker). is_over m.relation) (f.rmid ∷ f.umids)) ok in (
        same_from e.fmid (owner_of s x) (sym is.owned ∙ parts.0),
        λ z there.
            let it = beside_passes _ (λ (m : Maker). is_over m.relation ≡ true) (e.rmid ∷ e.umids) (f.rmid ∷ f.umids)
            is.makers (All_from_each _ (f.rmid ∷ f.umids)
            (λ m within. passes_all (λ (k : Maker). is_over k.relation) (f.rmid ∷ f.umids) m parts.1 within)) z there in
            over z it.1.relation it.2.1 it.3,
      )

  element : (h : Change) → Contains (changes_of g x) h
      → (f : Option ElementLevel) × HasElementLevel s x (element_of (view_of s x) h.elem_type h.name) f
      × (is_free (is_replacement h.action) f ≡ true)
  element h is =
      let it = beside_passes _ Clear (changes_of g x) are.changes_are.of_elements are.changes_are.elements_are
      elements_clear h is in
      (it.2.0, it.2.2, sym (ap is_clear it.2.1) ∙ it.3)

  -- an element that it changes, as its view has it
  pub changed : (type : ElemType) (name : Text) (e : Element) → IsTrue (has_change g x type name)
      → element_of (view_of s x) type name ≡ Some e → OwnAndOver e
  changed type name e has there =
      let it = change_found g x type name has in
      let f = element it.0 it.1 in
      let there' : element_of (view_of s x) it.0.elem_type it.0.name ≡ Some e =
      ap (λ t. element_of (view_of s x) t it.0.name) it.2 ∙ ap (element_of (view_of s x) type) it.3 ∙ there in
      by (is_replacement it.0.action) f.0 (subst (λ o. HasElementLevel s x o f.0) there' f.1) f.2
    where
      by : (replaces : Bool) (f : Option ElementLevel) → HasElementLevel s x (Some e) f → is_free replaces f ≡ true → OwnAndOver e
      by replaces f has ok = found e has.0 has.2 (sym (ap (is_free replaces) has.1) ∙ ok)

  -- it updates nothing that is not there
  pub updates_there : (type : ElemType) (name : Text) → IsTrue (has_update g x type name)
      → element_of (view_of s x) type name ≡ None → ⊥
  updates_there type name has absent = by (change_of g x type name) refl has
    where
      by : (o : Option Change) → change_of g x type name ≡ o
          → option_map_or (λ (h : Change). not (is_replacement h.action)) o false ≡ true → ⊥
      by None e ok = never ok
      by (Some h) e ok =
          let it = change_there g x type name h e in
          let f = element h it.0 in
          let gone : element_of (view_of s x) h.elem_type h.name ≡ None =
          ap (λ t. element_of (view_of s x) t h.name) it.1 ∙ ap (element_of (view_of s x) type) it.2 ∙ absent in
          let none : f.0 ≡ None = subst (λ o. HasElementLevel s x o f.0) gone f.1 in
          let replaces : is_replacement h.action ≡ true = sym (ap (is_free (is_replacement h.action)) none) ∙ f.2 in
          never (sym (ap not replaces) ∙ ok)

  -- ---- DELETE and NPRE

  pub not_deleted : is_deleted g s.choice (del_of s.choice x) x ≡ true → ⊥
  not_deleted is =
      let at = some_passes (λ w. is_in (del_of s.choice x) w) (chain g s.choice x) is in
      let fact = in_map (λ z. DeleteFact z (is_in (chain g s.choice x) z)) (del_of s.choice x) at.0
      (Contains_from_is_in (del_of s.choice x) at.0 at.2) in
      let ok = All-contains Clear (delete_facts s x) _ deletes_clear (Contains-append_left _ _ _ fact) in
      never (sym (ap not (is_in_from_Contains (chain g s.choice x) at.0 at.1)) ∙ ok)

  pub names_none : (y : Id) → IsTrue (is_applied (view_of s x) y) → Contains (npre_of s.choice x) y → ⊥
  names_none y applied is =
      let ok = All-contains Clear (npre_facts s x) _ npre_clear (Contains-append_left _ _ _
      (in_map (λ z. NpreFact z (is_applied (view_of s x) z)) (npre_of s.choice x) y is)) in
      never (sym (ap not applied) ∙ ok)

  pub none_forbids : (y : Id) → IsTrue (is_applied (view_of s x) y) → IsTrue (is_function g y)
      → Contains (npre_of s.choice y) x → ⊥
  none_forbids y applied function is =
      let passes : forbids s x y ≡ true = ap (λ b. b && is_in (npre_of s.choice y) x) function
      ∙ is_in_from_Contains (npre_of s.choice y) x is in
      let ok = All-contains Clear (npre_facts s x) _ npre_clear (Contains-append_right _ _ _
      (in_map ForbiddenFact _ y (in_filter (forbids s x) (applied_ids (view_of s x)) y
      (in_applied_ids (view_of s x) y applied) passes))) in
      never ok
