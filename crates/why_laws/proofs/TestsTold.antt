-- The facts that are told of a failed test witness it, and each failed test has one, or a conflict.
use Rattle.std.proofs.Common.{◌≡◌, ◌≢◌, ◌∙◌, ◌⊎◌, inl, inr, ◌-◌, ◌+◌, Bool, true, false, not, List, [], ◌∷◌, ◌++◌}
use Rattle.std.proofs.Common.{Option, None, Some, map, filter, find, length, Contains, IsTrue, All, refl, sym, ap}
use Rattle.std.proofs.Common.{subst}
use Rattle.std.proofs.Common.{subst₂, true≢false, eq-eqb, arith, slice_get, is_some, ◌≤◌}
use Rattle.std.specs.Prelude.{◌&&◌, ◌==◌, codes}
use Rattle.std.specs.List.{flat_map}
use Rattle.std.specs.Option.{option_map_or}
use Rattle.std.specs.Str.{bytes_eq}
use Rattle.std.specs.Ordering.{nat_cmp}
use Rattle.std.specs.Cmp.Lexicographic.{slice_cmp}
use Rattle.std.proofs.lemmas.Bool.{and_parts, and_from}
use Rattle.std.proofs.lemmas.Cmp.{tied_itself}
use Rattle.std.proofs.lemmas.List.Elements.{Contains-append_left, Contains-append_right, Contains-append_cases}
use Rattle.std.proofs.lemmas.List.Kept.{AllPairs-filter}
use Rattle.terms.specs.declared.kinds.HoldKind.{HoldKind}
use Rattle.terms.specs.declared.kinds.HoldKind.TheVariants.{Error, System, User}
use Rattle.terms.specs.declared.kinds.ElemType.{ElemType}
use Rattle.terms.specs.declared.codes.Test.{Test}
use Rattle.terms.specs.declared.codes.Test.TheVariants.{HeldBySystem, HeldByUser, ForbiddenByNpre, OwnedByAnother}
use Rattle.terms.specs.declared.codes.Test.TheVariants.{Regression, NothingToUpdate, NotInTarget, ChainDeleted}
use Rattle.terms.specs.declared.codes.Test.TheVariants.{InClash, AlreadyAccepted, HasDelete, OtherLevel, SeveralFit}
use Rattle.terms.specs.Types.{Text, Id, Hold, Change, Global, Entry, Element, Zone, hold_number}
use Rattle.terms.specs.Lookups.{IsZone, has_content, is_before, is_in, has_change, changes_of, change_of, change_key}
use Rattle.terms.specs.Lookups.{holds_of, element_of, element_cmp, element_eq, is_applied, is_function, applied_ids}
use Rattle.terms.specs.Rising.{Rises}
use Rattle.terms.specs.Choice.{Choice, vers_of, fits, place, npre_of, del_of}
use Rattle.terms.specs.Over.{IsOver, chain}
use Rattle.terms.specs.Changes.{is_replacement, has_update}
use Rattle.terms.specs.Deleted.{deletions, is_taken_out, entry_less, zone_less}
use Rattle.terms.specs.Global.{IsGlobal}
use Rattle.terms.specs.Tests.{Setting, view_of, owner_of, is_bypassed_hold, standing_holds, has_candidate_base}
use Rattle.terms.specs.Tests.{FailsAlone}
use Rattle.terms.proofs.Applied.{found_itself, in_applied_ids}
use Rattle.terms.proofs.Booleans.{false_from_not}
use Rattle.terms.proofs.ChangedElements.{change_there, change_found, change_has, changes_rise}
use Rattle.terms.proofs.Each.{All_from_each}
use Rattle.terms.proofs.ElementOrder.{element_cmp_total, element_ties}
use Rattle.terms.proofs.Ids.{is_in_from_Contains, Contains_from_is_in}
use Rattle.terms.proofs.ListMembers.{here, there, here_or, in_map, map_in, in_filter, filter_in, parts}
use Rattle.terms.proofs.Pairs.{pairs_map}
use Rattle.terms.proofs.RisingLists.{find_there, Splits_around}
use Rattle.terms.proofs.TextOrder.{same_itself, other_text}
use Rattle.report.specs.Facts.{AreFacts, Relation, Itself, Over, NotOver, is_over, IsRelation}
use Rattle.report.specs.Facts.{Maker, ElementLevel, IsElementLevel, HasElementLevel, forbids, holds_on}
use Rattle.report.specs.Facts.{Fact, VerFact, HoldFact, ElementFact, DeleteFact, NpreFact, ForbiddenFact}
use Rattle.why_verdict.specs.Verdict.{by_hold, by_target, maker_reason, reason}
use Rattle.why_laws.specs.Witnesses.{IsStandingHold, IsForbidding, ChangesElement, IsOfAnother, IsLower, lower_makers}
use Rattle.why_laws.specs.Witnesses.{IsRegressed, IsLacking, IsOwnDeletion, IsFittingVer, Witnesses}
use Rattle.why_laws.proofs.FactsSay.{Says, beside_in, in_beside, in_numbered, level_some, level_none}
use Rattle.why_laws.proofs.FactsSay.{has_ver, has_hold, has_element, has_delete, has_npre}
use Rattle.why_laws.proofs.Printed.{true_if, false_if, cons_some, some_if, some_unless, front_or_back, some_front}
use Rattle.why_laws.proofs.Printed.{some_back, some_flat, flat_some, some_member, member_some}

-- ---- holds

system_kind : (kind : HoldKind) → by_hold HeldBySystem kind ≡ true → kind ≡ System
system_kind Error is = absurd (true≢false (sym is))
system_kind System is = refl
system_kind User is = absurd (true≢false (sym is))

user_kind : (kind : HoldKind) → by_hold HeldByUser kind ≡ true → kind ≡ User
user_kind Error is = absurd (true≢false (sym is))
user_kind System is = absurd (true≢false (sym is))
user_kind User is = refl

kind_system : (kind : HoldKind) → (hold_number kind == hold_number System) ≡ true → by_hold HeldBySystem kind ≡ true
kind_system Error is = absurd (true≢false (sym is))
kind_system System is = refl
kind_system User is = absurd (true≢false (sym is))

kind_user : (kind : HoldKind) → (hold_number kind == hold_number User) ≡ true → by_hold HeldByUser kind ≡ true
kind_user Error is = absurd (true≢false (sym is))
kind_user System is = absurd (true≢false (sym is))
kind_user User is = refl

abbrev is_on : Id → HoldKind → Hold → Bool
is_on x kind h = bytes_eq h.id x && (hold_number h.kind == hold_number kind)

-- a hold on x among those of its own kind
own_kind : (g : Global) (x : Id) (h : Hold) → Contains (holds_on g x) h → Contains (holds_of g h.kind x) h
own_kind g x h is =
    let any : Contains g.holds h × (bytes_eq h.id x ≡ true) =
    elim (Contains-append_cases (holds_of g Error x ++ holds_of g System x) (holds_of g User x) h is) [
      | inl front ↦ elim (Contains-append_cases (holds_of g Error x) (holds_of g System x) h front) [
        | inl error ↦ of_kind Error error
        | inr system ↦ of_kind System system
      ]
      | inr user ↦ of_kind User user
    ] in
    in_filter (is_on x h.kind) g.holds h any.0
    (and_from (bytes_eq h.id x) (hold_number h.kind == hold_number h.kind) any.1
    (eq-eqb (hold_number h.kind) (hold_number h.kind) refl))
  where
    of_kind : (kind : HoldKind) → Contains (holds_of g kind x) h → Contains g.holds h × (bytes_eq h.id x ≡ true)
    of_kind kind there =
        let both = filter_in (is_on x kind) g.holds h there in
        (both.0, (and_parts (bytes_eq h.id x) (hold_number h.kind == hold_number kind) both.1).0)

stands : (s : Setting) (x : Id) (h : Hold) (kind : HoldKind) → h.kind ≡ kind → Contains (holds_on s.global x) h
    → not (is_bypassed_hold s.bypass h) ≡ true → Contains (standing_holds s kind x) h
stands s x h kind same is on =
    in_filter (λ (h : Hold). not (is_bypassed_hold s.bypass h)) (holds_of s.global kind x) h
    (subst (λ k. Contains (holds_of s.global k x) h) same (own_kind s.global x h is)) on

-- ---- elements

-- the statement about an element is the one that is found
change_own : (g : Global) → IsGlobal g → (x : Id) (h : Change) → Contains (changes_of g x) h
    → change_of g x h.elem_type h.name ≡ Some h
change_own g is_global x h of =
    let p = parts (changes_of g x) h of in
    let tie = tied_itself element_cmp_total (change_key h) in
    ap (find (λ k. element_eq (change_key k) (change_key h))) p.2
    ∙ find_there element_cmp_total change_key element_eq element_ties (change_key h) p.0 p.1 h
    (Splits_around element_cmp_total change_key (change_key h) p.0 p.1 h
    (subst (Rises element_cmp change_key) p.2 (changes_rise g x is_global)) tie) tie

-- an update is one of its statements
update_found : (g : Global) (x : Id) (type : ElemType) (name : Text) → IsTrue (has_update g x type name)
    → (h : Change) × Contains (changes_of g x) h × (h.elem_type ≡ type) × (h.name ≡ name)
    × (not (is_replacement h.action) ≡ true)
update_found g x type name updates = by (change_of g x type name) refl
  where
    by : (o : Option Change) → change_of g x type name ≡ o → (h : Change) × Contains (changes_of g x) h
        × (h.elem_type ≡ type) × (h.name ≡ name) × (not (is_replacement h.action) ≡ true)
    by None e = absurd (true≢false (sym updates ∙ ap (λ o. option_map_or (λ h. not (is_replacement h.action)) o
        false) e))
    by (Some h) e =
        let t = change_there g x type name h e in
        (h, t.0, t.1, t.2, sym (ap (λ o. option_map_or (λ h. not (is_replacement h.action)) o false) e) ∙ updates)

not_over : (c : Choice) (x z : Id) → ((y : Id) → ¬ IsOver c y y) → (r : Relation) → IsRelation c x z r
    → not (is_over r) ≡ true → ¬ IsOver c x z
not_over c x z itself Itself is told = λ over. itself x (subst (IsOver c x) (sym is) over)
not_over c x z itself Over is told = absurd (true≢false (sym told))
not_over c x z itself NotOver is told = is.1

over_not : (c : Choice) (x z : Id) (r : Relation) → IsRelation c x z r → (¬ IsOver c x z) → is_over r ≡ false
over_not c x z Itself is lower = refl
over_not c x z Over is lower = absurd (lower is.1)
over_not c x z NotOver is lower = refl

-- ---- the view

less_rises : (g : Global) (c : Choice) (dels : List Id) (zone : Zone) → IsZone zone
    → Rises (slice_cmp nat_cmp) (λ (e : Entry). e.id) (zone_less g c dels zone).entries
unfolding zone_less
less_rises g c dels zone is_zone =
    let gone = is_taken_out g c dels zone in
    AllPairs-filter (λ (e f : Entry). IsTrue (is_before e.id f.id)) has_content (map (entry_less gone) zone.entries)
    (pairs_map (λ e f. IsTrue (is_before e.id f.id)) (λ e f. IsTrue (is_before e.id f.id)) (entry_less gone)
    (λ e f low. low) zone.entries is_zone.entries)

rising_applied : (zone : Zone) → Rises (slice_cmp nat_cmp) (λ (e : Entry). e.id) zone.entries → (y : Id)
    → Contains (applied_ids zone) y → IsTrue (is_applied zone y)
rising_applied zone rises y is =
    let from = map_in (λ (e : Entry). e.id) (filter (λ e. is_some e.applied) zone.entries) y is in
    let kept = filter_in (λ (e : Entry). is_some e.applied) zone.entries from.0 from.1 in
    subst (λ w. IsTrue (is_applied zone w)) from.2
    (ap (λ o. option_map_or (λ (e : Entry). is_some e.applied) o false)
    (found_itself zone.entries rises from.0 kept.0) ∙ kept.1)

-- In the zone, nothing is over itself.
module _ (s : Setting) (is_global : IsGlobal s.global) (is_zone : IsZone s.zone)
    (itself : (y : Id) → ¬ IsOver s.choice y y) (x : Id) where
  view_applied : (y : Id) → Contains (applied_ids (view_of s x)) y → IsTrue (is_applied (view_of s x) y)
  view_applied = rising_applied (view_of s x)
      (less_rises s.global s.choice (deletions s.choice (filter (is_in s.cands) (chain s.global s.choice x))) s.zone
      is_zone)

  -- ---- what is told witnesses the test

  system_hold : (f : Fact) → Says s x f → reason s.bypass HeldBySystem f ≢ [] → IsStandingHold s System x f
  system_hold (HoldFact h answer) (is, resolved) some =
      let both = and_parts (by_hold HeldBySystem h.kind) (not (is_bypassed_hold s.bypass h)) (true_if _ _ some) in
      stands s x h System (system_kind h.kind both.0) is both.1
  system_hold (ElementFact type name replaces brought None) is some = absurd (some refl)
  system_hold (ElementFact type name replaces brought (Some level)) is some = absurd (some refl)
  system_hold f is some = absurd (some refl)

  user_hold : (f : Fact) → Says s x f → reason s.bypass HeldByUser f ≢ [] → IsStandingHold s User x f
  user_hold (HoldFact h answer) (is, resolved) some =
      let both = and_parts (by_hold HeldByUser h.kind) (not (is_bypassed_hold s.bypass h)) (true_if _ _ some) in
      stands s x h User (user_kind h.kind both.0) is both.1
  user_hold (ElementFact type name replaces brought None) is some = absurd (some refl)
  user_hold (ElementFact type name replaces brought (Some level)) is some = absurd (some refl)
  user_hold f is some = absurd (some refl)

  forbidding : (f : Fact) → Says s x f → reason s.bypass ForbiddenByNpre f ≢ [] → IsForbidding s x f
  forbidding (NpreFact y applied) (is, seen) some = (seen ∙ true_if applied _ some, is)
  forbidding (ForbiddenFact y) is some =
      let both = filter_in (forbids s x) (applied_ids (view_of s x)) y is in
      let names = and_parts (is_function s.global y) (is_in (npre_of s.choice y) x) both.1 in
      (view_applied y both.0, names.0, Contains_from_is_in (npre_of s.choice y) x names.1)
  forbidding (ElementFact type name replaces brought None) is some = absurd (some refl)
  forbidding (ElementFact type name replaces brought (Some level)) is some = absurd (some refl)
  forbidding f is some = absurd (some refl)

  -- the element of a fact, as the view has it
  changes : (h : Change) (type : ElemType) (name : Text) (e : Element) → Contains (changes_of s.global x) h
      → h.elem_type ≡ type → h.name ≡ name → element_of (view_of s x) type name ≡ Some e
      → ChangesElement s x type name e
  changes h type name e is of_type of_name at = (
    subst₂ (λ t n. IsTrue (has_change s.global x t n)) of_type of_name (change_has s.global x h is),
    at,
  )

  of_another : (f : Fact) → Says s x f → reason s.bypass OwnedByAnother f ≢ [] → IsOfAnother s x f
  of_another (ElementFact type name replaces brought (Some level)) (h, is, t, n, r, b, has) some =
      let it = level_some s x (element_of (view_of s x) type name) level has in
      let not_owned : bytes_eq it.0.fmid (owner_of s x) ≡ false = sym it.2.owned ∙ false_if level.owned _ some in (
        it.0,
        changes h type name it.0 is t n it.1,
        λ same. true≢false (sym (subst (λ z. bytes_eq it.0.fmid z ≡ true) same (same_itself it.0.fmid)) ∙ not_owned),
      )
  of_another (ElementFact type name replaces brought None) is some = absurd (some refl)
  of_another f is some = absurd (some refl)

  lower_told : (type : ElemType) (name word : Text) (level : ElementLevel) (m : Maker)
      → Contains (level.rmid ∷ level.umids) m → maker_reason Regression type name word m ≢ [] → lower_makers level ≢ []
  lower_told type name word level m is some = member_some (lower_makers level) m
      (in_filter (λ (m : Maker). not (is_over m.relation)) (level.rmid ∷ level.umids) m is
      (ap not (false_if (is_over m.relation) _ some)))

  regressed : (f : Fact) → Says s x f → reason s.bypass Regression f ≢ [] → IsRegressed s x f
  regressed (ElementFact type name replaces brought (Some level)) (h, is, t, n, r, b, has) some =
      let it = level_some s x (element_of (view_of s x) type name) level has in
      let makers = level.rmid ∷ level.umids in
      let told : lower_makers level ≢ [] = elim (front_or_back _ _ some) [
        | inl rmid ↦ lower_told type name (codes "RMID") level level.rmid (here level.rmid level.umids) rmid
        | inr umids ↦
            let one = flat_some (maker_reason Regression type name (codes "UMID")) level.umids umids in
            lower_told type name (codes "UMID") level one.0 (there level.rmid level.umids one.0 one.1) one.2
      ] in
      let each : All (IsLower s x it.0) (lower_makers level) = All_from_each (IsLower s x it.0) (lower_makers level)
      (λ m lower.
      let both = filter_in (λ (m : Maker). not (is_over m.relation)) makers m lower in
      let made = in_beside (λ n z (m : Maker). (m.id ≡ z) × IsRelation s.choice x z m.relation)
      (it.0.rmid ∷ it.0.umids) makers it.2.makers m both.0 in (
        subst (Contains (it.0.rmid ∷ it.0.umids)) (sym made.3.0) made.2,
        subst (λ z. ¬ IsOver s.choice x z) (sym made.3.0)
            (not_over s.choice x made.0 itself m.relation made.3.1 both.1),
      )) in
      (it.0, changes h type name it.0 is t n it.1, told, each)
  regressed (ElementFact type name replaces brought None) is some = absurd (some refl)
  regressed f is some = absurd (some refl)

  lacking : (f : Fact) → Says s x f → reason s.bypass NothingToUpdate f ≢ [] → IsLacking s x f
  lacking (ElementFact type name replaces brought None) (h, is, t, n, r, b, has) some =
      let both = and_parts (not replaces) (not brought) (true_if (not replaces && not brought) _ some) in
      let updates : IsTrue (has_update s.global x h.elem_type h.name) =
      ap (λ o. option_map_or (λ (h : Change). not (is_replacement h.action)) o false)
      (change_own s.global is_global x h is)
      ∙ ap not r ∙ both.0 in (
        subst₂ (λ t n. IsTrue (has_update s.global x t n)) t n updates,
        level_none s x (element_of (view_of s x) type name) has,
        b ∙ false_from_not brought both.1,
      )
  lacking (ElementFact type name replaces brought (Some level)) is some = absurd (some refl)
  lacking f is some = absurd (some refl)

  own_deletion : (f : Fact) → Says s x f → reason s.bypass ChainDeleted f ≢ [] → IsOwnDeletion s x f
  own_deletion (DeleteFact z own) (is, seen) some =
      (is, Contains_from_is_in (chain s.global s.choice x) z (seen ∙ true_if own _ some))
  own_deletion (ElementFact type name replaces brought None) is some = absurd (some refl)
  own_deletion (ElementFact type name replaces brought (Some level)) is some = absurd (some refl)
  own_deletion f is some = absurd (some refl)

  fitting_ver : (f : Fact) → Says s x f → reason s.bypass SeveralFit f ≢ [] → IsFittingVer s x f
  fitting_ver (VerFact n fmid fit counts) (k, v, number, at, of, seen) some =
      let before : n - 1 ≡ k = omega (arith, number) in (
        v,
        ap (slice_get (vers_of s.global s.zone.srel x)) before ∙ at,
        of,
        seen ∙ true_if fit _ some,
      )
  fitting_ver (ElementFact type name replaces brought None) is some = absurd (some refl)
  fitting_ver (ElementFact type name replaces brought (Some level)) is some = absurd (some refl)
  fitting_ver f is some = absurd (some refl)

  -- no fact is told of the other tests
  untold_target : (f : Fact) → reason s.bypass NotInTarget f ≡ []
  untold_target (ElementFact type name replaces brought None) = refl
  untold_target (ElementFact type name replaces brought (Some level)) = refl
  untold_target f = refl

  untold_clash : (f : Fact) → reason s.bypass InClash f ≡ []
  untold_clash (ElementFact type name replaces brought None) = refl
  untold_clash (ElementFact type name replaces brought (Some level)) = refl
  untold_clash f = refl

  untold_accepted : (f : Fact) → reason s.bypass AlreadyAccepted f ≡ []
  untold_accepted (ElementFact type name replaces brought None) = refl
  untold_accepted (ElementFact type name replaces brought (Some level)) = refl
  untold_accepted f = refl

  untold_delete : (f : Fact) → reason s.bypass HasDelete f ≡ []
  untold_delete (ElementFact type name replaces brought None) = refl
  untold_delete (ElementFact type name replaces brought (Some level)) = refl
  untold_delete f = refl

  untold_level : (f : Fact) → reason s.bypass OtherLevel f ≡ []
  untold_level (ElementFact type name replaces brought None) = refl
  untold_level (ElementFact type name replaces brought (Some level)) = refl
  untold_level f = refl

  pub witnesses : (t : Test) (f : Fact) → Says s x f → reason s.bypass t f ≢ [] → Witnesses s x t f
  witnesses HeldBySystem f is some = system_hold f is some
  witnesses HeldByUser f is some = user_hold f is some
  witnesses ForbiddenByNpre f is some = forbidding f is some
  witnesses OwnedByAnother f is some = of_another f is some
  witnesses Regression f is some = regressed f is some
  witnesses NothingToUpdate f is some = lacking f is some
  witnesses NotInTarget f is some = some (untold_target f)
  witnesses ChainDeleted f is some = own_deletion f is some
  witnesses InClash f is some = some (untold_clash f)
  witnesses AlreadyAccepted f is some = some (untold_accepted f)
  witnesses HasDelete f is some = some (untold_delete f)
  witnesses OtherLevel f is some = some (untold_level f)
  witnesses SeveralFit f is some = fitting_ver f is some

  -- ---- each failed test has a witness that is told

  module _ (facts : List Fact) (are : AreFacts s x facts) where
    -- a fact that is told of the test
    abbrev pub IsTold : Test → Type 0
    IsTold t = (f : Fact) × Contains facts f × (reason s.bypass t f ≢ [])

    told : (t : Test) (f g : Fact) → f ≡ g → Contains facts f → reason s.bypass t g ≢ [] → IsTold t
    told t f g same is some = (g, subst (Contains facts) same is, some)

    hold_told : (t : Test) (kind : HoldKind)
        → ((k : HoldKind) → (hold_number k == hold_number kind) ≡ true → by_hold t k ≡ true)
        → ((h : Hold) → Contains (holds_of s.global kind x) h → Contains (holds_on s.global x) h)
        → standing_holds s kind x ≢ [] → IsTold t
    hold_told t kind looks on some =
        let one = some_member (standing_holds s kind x) some in
        let h = one.0 in
        let both = filter_in (λ (h : Hold). not (is_bypassed_hold s.bypass h)) (holds_of s.global kind x) h one.1 in
        let of_kind = and_parts (bytes_eq h.id x) (hold_number h.kind == hold_number kind)
        (filter_in (is_on x kind) s.global.holds h both.0).1 in
        let it = has_hold s x facts are h (on h both.0) in
        told t it.0 (HoldFact h it.2.0) it.2.1 it.1
        (some_if (by_hold t h.kind && not (is_bypassed_hold s.bypass h)) 32 _
        (and_from (by_hold t h.kind) (not (is_bypassed_hold s.bypass h)) (looks h.kind of_kind.1) both.1))

    npre_told : (y : Id) → IsTrue (is_applied (view_of s x) y)
        → Contains (npre_of s.choice x) y ⊎ (IsTrue (is_function s.global y) × Contains (npre_of s.choice y) x)
        → IsTold ForbiddenByNpre
    npre_told y applied (inl names) = (
      NpreFact y (is_applied (view_of s x) y),
      has_npre s x facts are _ (Contains-append_left _ _ _
          (in_map (λ y. NpreFact y (is_applied (view_of s x) y)) (npre_of s.choice x) y names)),
      some_if (is_applied (view_of s x) y) 32 _ applied,
    )
    npre_told y applied (inr forbidden) =
        let passes : forbids s x y ≡ true = and_from (is_function s.global y) (is_in (npre_of s.choice y) x) forbidden.0
        (is_in_from_Contains (npre_of s.choice y) x forbidden.1) in (
          ForbiddenFact y,
          has_npre s x facts are _ (Contains-append_right _ _ _ (in_map ForbiddenFact _ y
              (in_filter (forbids s x) (applied_ids (view_of s x)) y (in_applied_ids (view_of s x) y applied) passes))),
          cons_some 32 _,
        )

    -- the fact of an element that the view has
    abbrev HasLevel : Element → Type 0
    HasLevel e = (type : ElemType) × (name : Text) × (replaces brought : Bool) × (level : ElementLevel)
        × Contains facts (ElementFact type name replaces brought (Some level)) × IsElementLevel s x e level

    has_level : (type : ElemType) (name : Text) (e : Element) → IsTrue (has_change s.global x type name)
        → element_of (view_of s x) type name ≡ Some e → HasLevel e
    has_level type name e has at =
        let h = change_found s.global x type name has in
        let it = has_element s x facts are h.0 h.1 in
        let at' : element_of (view_of s x) h.0.elem_type h.0.name ≡ Some e =
        ap (λ t. element_of (view_of s x) t h.0.name) h.2 ∙ ap (element_of (view_of s x) type) h.3 ∙ at in
        let found = subst (λ o. HasElementLevel s x o it.2.0) at' it.2.2 in
        let fact : it.0 ≡ ElementFact h.0.elem_type h.0.name (is_replacement h.0.action)
        (has_candidate_base s x h.0.elem_type h.0.name) (Some found.0) =
        it.2.1 ∙ ap (ElementFact h.0.elem_type h.0.name (is_replacement h.0.action)
        (has_candidate_base s x h.0.elem_type h.0.name)) found.1 in (
          h.0.elem_type,
          h.0.name,
          is_replacement h.0.action,
          has_candidate_base s x h.0.elem_type h.0.name,
          found.0,
          subst (Contains facts) fact it.1,
          found.2,
        )

    another_told : (e : Element) → HasLevel e → e.fmid ≢ owner_of s x → IsTold OwnedByAnother
    another_told e (type, name, replaces, brought, level, is, of) other = (
      ElementFact type name replaces brought (Some level),
      is,
      some_unless level.owned 32 _ (of.owned ∙ other_text e.fmid (owner_of s x) other),
    )

    lower_maker_told : (e : Element) (z : Id) → HasLevel e → Contains (e.rmid ∷ e.umids) z → (¬ IsOver s.choice x z)
        → IsTold Regression
    lower_maker_told e z (type, name, replaces, brought, level, is, of) made lower =
        let at = beside_in (λ n z (m : Maker). (m.id ≡ z) × IsRelation s.choice x z m.relation) (e.rmid ∷ e.umids)
        (level.rmid ∷ level.umids) of.makers z made in
        let m = at.0 in
        let below : is_over m.relation ≡ false = over_not s.choice x z m.relation at.3.1 lower in
        let rmid : Text = maker_reason Regression type name (codes "RMID") level.rmid in
        let umids : Text = flat_map (maker_reason Regression type name (codes "UMID")) level.umids in (
          ElementFact type name replaces brought (Some level),
          is,
          elim (here_or level.rmid level.umids m at.2) [
            | inl first ↦ some_front rmid umids
                (some_unless (is_over level.rmid.relation) 32 _
                (subst (λ (m : Maker). is_over m.relation ≡ false) (sym first) below))
            | inr later ↦ some_back rmid umids
                (some_flat (maker_reason Regression type name (codes "UMID")) level.umids m later
                (some_unless (is_over m.relation) 32 _ below))
          ],
        )

    lacking_told : (type : ElemType) (name : Text) → IsTrue (has_update s.global x type name)
        → element_of (view_of s x) type name ≡ None → has_candidate_base s x type name ≡ false → IsTold NothingToUpdate
    lacking_told type name updates lacks base =
        let h = update_found s.global x type name updates in
        let it = has_element s x facts are h.0 h.1 in
        let lacks' : element_of (view_of s x) h.0.elem_type h.0.name ≡ None =
        ap (λ t. element_of (view_of s x) t h.0.name) h.2 ∙ ap (element_of (view_of s x) type) h.3 ∙ lacks in
        let base' : has_candidate_base s x h.0.elem_type h.0.name ≡ false =
        ap (λ t. has_candidate_base s x t h.0.name) h.2 ∙ ap (has_candidate_base s x type) h.3 ∙ base in
        let none : it.2.0 ≡ None = subst (λ o. HasElementLevel s x o it.2.0) lacks' it.2.2 in
        let fact : it.0 ≡ ElementFact h.0.elem_type h.0.name (is_replacement h.0.action)
        (has_candidate_base s x h.0.elem_type h.0.name) None =
        it.2.1 ∙ ap (ElementFact h.0.elem_type h.0.name (is_replacement h.0.action)
        (has_candidate_base s x h.0.elem_type h.0.name)) none in
        told NothingToUpdate it.0 _ fact it.1
        (some_if (not (is_replacement h.0.action) && not (has_candidate_base s x h.0.elem_type h.0.name)) 32 _
        (and_from (not (is_replacement h.0.action)) (not (has_candidate_base s x h.0.elem_type h.0.name)) h.4
        (ap not base')))

    pub deletion_told : (z : Id) → Contains (del_of s.choice x) z → Contains (chain s.global s.choice x) z
        → IsTold ChainDeleted
    deletion_told z names within = (
      DeleteFact z (is_in (chain s.global s.choice x) z),
      has_delete s x facts are z names,
      some_if (is_in (chain s.global s.choice x) z) 32 _ (is_in_from_Contains (chain s.global s.choice x) z within),
    )

    several_told : 2 ≤ length (filter (fits s.zone (is_in s.cands)) (vers_of s.global s.zone.srel x))
        → IsTold SeveralFit
    several_told several =
        let one = some_member (filter (fits s.zone (is_in s.cands)) (vers_of s.global s.zone.srel x))
        (λ none. omega (arith, several, ap length none)) in
        let v = one.0 in
        let both = filter_in (fits s.zone (is_in s.cands)) (vers_of s.global s.zone.srel x) v one.1 in
        let counts = place s.global s.zone s.cands x + 1 in
        let it = in_numbered (fits s.zone (is_in s.cands)) counts 1 (vers_of s.global s.zone.srel x) v both.0 in (
          VerFact it.0 v.fmid (fits s.zone (is_in s.cands) v) (it.0 == counts),
          has_ver s x facts are (VerFact it.0 v.fmid (fits s.zone (is_in s.cands) v) (it.0 == counts)) it.1,
          some_if (fits s.zone (is_in s.cands) v) 32 _ both.1,
        )

    -- a test that looks only at x, except NotInTarget
    pub told_alone : (t : Test) → by_target t ≡ false → FailsAlone s x t → IsTold t
    told_alone HeldBySystem of fails = hold_told HeldBySystem System kind_system
        (λ h is. Contains-append_left (holds_of s.global Error x ++ holds_of s.global System x)
        (holds_of s.global User x) h (Contains-append_right (holds_of s.global Error x) (holds_of s.global System x) h
        is)) fails
    told_alone HeldByUser of fails = hold_told HeldByUser User kind_user
        (λ h is. Contains-append_right (holds_of s.global Error x ++ holds_of s.global System x)
        (holds_of s.global User x) h is) fails
    told_alone ForbiddenByNpre of (y, applied, either) = npre_told y applied either
    told_alone OwnedByAnother of (e, (type, name, has, at), other) = another_told e (has_level type name e has at) other
    told_alone Regression of (strict, (e, z, (type, name, has, at), made, lower)) =
        lower_maker_told e z (has_level type name e has at) made lower
    told_alone NothingToUpdate of (type, name, updates, lacks, base) = lacking_told type name updates lacks base
    told_alone NotInTarget of fails = absurd (true≢false of)
    told_alone ChainDeleted of fails = absurd fails
    told_alone InClash of fails = absurd fails
    told_alone AlreadyAccepted of fails = absurd fails
    told_alone HasDelete of fails = absurd fails
    told_alone OtherLevel of fails = absurd fails
    told_alone SeveralFit of fails = several_told fails
