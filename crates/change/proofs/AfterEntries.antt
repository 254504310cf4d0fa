-- Whatever zone the edits of entries make of the old one has the entries that the install asks for.
use Rattle.std.proofs.Common.{◌≡◌, ◌⊎◌, inl, inr, Bool, true, false, not, List, [], ◌∷◌, Option, Some, None}
use Rattle.std.proofs.Common.{refl, sym, ap, ◌∙◌, subst, true≢false, IsTrue, All, arith}
use Rattle.std.specs.Prelude.{◌&&◌, ◌||◌, ◌↔◌, is_some, Contains, IsFalse, unwrap_or, if◌then◌else◌}
use Rattle.std.specs.Option.{option_map_or, option_and_then}
use Rattle.std.specs.Str.{bytes_eq}
use Rattle.std.proofs.lemmas.Bool.{and_parts, not-true, false_from_ne_true}
use Rattle.std.proofs.lemmas.List.Elements.{Contains-append_left, Contains-append_right, Contains-append_cases}
use Rattle.terms.proofs.ListMembers.{here, none_in}
use Rattle.terms.proofs.Searches.{All_find}
use Rattle.terms.proofs.TextOrder.{same_or_not}
use Rattle.terms.specs.Types.{Text, Id, Entry, Zone, Applied, an_applied}
use Rattle.terms.specs.Lookups.{IsRising, IsZone, is_nil, is_in, has_content, waives_applied, entry_of, applied_of}
use Rattle.terms.specs.Lookups.{supby_of, delby_of, waived_of, is_applied, is_supplied}
use Rattle.terms.specs.Choice.{Choice}
use Rattle.terms.specs.Over.{Supersedes}
use Rattle.terms.specs.Global.{IsGlobal}
use Rattle.zones_maps.specs.Delta.{ZoneEdits}
use Rattle.terms.specs.Deleted.{zone_less}
use Rattle.terms.specs.Install.{Installation, TakesEffect, applied_with, cleared, delby_after}
use Rattle.terms.proofs.Ids.{is_in_from_Contains, Contains_from_is_in, in_or_not}
use Rattle.sysmods.specs.Choices.{number_in}
use Rattle.change.specs.declared.deleting.Deleting.{Deleting}
use Rattle.change.specs.declared.plan.Plan.{Plan}
use Rattle.zones.specs.Gone.{left_of}
use Rattle.change.specs.Deleting.{AreDeletions, choice_of, at_stake}
use Rattle.change.specs.Pairs.{others_of}
use Rattle.change.specs.Plans.{installation, IsPlan}
use Rattle.change.specs.Entries.{is_open, bare_entry, old_entry, if_held, entry_after, IsAppliedEntry, IsOtherEntry}
use Rattle.change.specs.Entries.{IsMadeEntry, HasPutEntries}
use Rattle.change.proofs.ChosenVers.{looked_up, never_itself}
use Rattle.change.proofs.Leaving.{old_held, delby_is, entry_stays, delby_stays}
use Rattle.change.proofs.Made.{old_id, old_waives}

none_rise : IsRising []
none_rise = λ i j d less below. absurd (omega (arith, below))

-- ---- fields of an entry that may be there, as the look-ups of a zone read them

abbrev applied_in : Option Entry → Option Applied
applied_in = option_and_then (λ e. e.applied)

abbrev is_applied_in : Option Entry → Bool
is_applied_in o = option_map_or (λ e. is_some e.applied) o false

abbrev delby_in : Option Entry → Option Id
delby_in = option_and_then (λ e. e.delby)

abbrev supby_in : Option Entry → List Id
supby_in o = option_map_or (λ e. e.supby) o []

abbrev waived_in : Option Entry → List Id
waived_in o = option_map_or (λ e. e.waived) o []

-- ---- an entry that nothing holds reads as none

module _ (e : Entry) (waives : IsTrue (waives_applied e)) where
  no_date : (a : Option Applied) → e.applied ≡ a → has_content e ≡ false → a ≡ None
  no_date None at unheld = refl
  no_date (Some t) at unheld =
      absurd (true≢false (ap (λ a. is_some a || not (is_nil e.supby) || is_some e.delby) (sym at) ∙ unheld))

  undated : has_content e ≡ false → e.applied ≡ None
  undated unheld = no_date e.applied refl unheld

  unsuperseded : has_content e ≡ false → e.supby ≡ []
  unsuperseded unheld = by e.supby refl
    where
      by : (ys : List Id) → e.supby ≡ ys → ys ≡ []
      by [] at = refl
      by (y ∷ ys) at = absurd (true≢false (sym (ap (λ a. is_some a || not (is_nil (y ∷ ys)) || is_some e.delby)
          (undated unheld)) ∙ ap (λ ys. is_some e.applied || not (is_nil ys) || is_some e.delby) (sym at) ∙ unheld))

  undeleted : has_content e ≡ false → e.delby ≡ None
  undeleted unheld = by e.delby refl
    where
      by : (o : Option Id) → e.delby ≡ o → o ≡ None
      by None at = refl
      by (Some k) at = absurd (true≢false (sym (or_last (is_some e.applied || not (is_nil e.supby)))
          ∙ ap (λ o. is_some e.applied || not (is_nil e.supby) || is_some o) (sym at) ∙ unheld))
        where
          or_last : (b : Bool) → (b || true) ≡ true
          or_last true = refl
          or_last false = refl

  unwaiving : has_content e ≡ false → e.waived ≡ []
  unwaiving unheld = by e.waived refl
    where
      by : (zs : List Id) → e.waived ≡ zs → zs ≡ []
      by [] at = refl
      by (z ∷ zs) at = absurd (true≢false (sym waives
          ∙ ap (λ zs. is_some e.applied || is_nil zs) at ∙ ap (λ a. is_some a || is_nil (z ∷ zs)) (undated unheld)))

  read : {X : Type 0} (field : Option Entry → X) → (has_content e ≡ false → field None ≡ field (Some e))
      → field (if_held e) ≡ field (Some e)
  read field none = by (has_content e) refl
    where
      by : (b : Bool) → has_content e ≡ b → field (if b then Some e else None) ≡ field (Some e)
      by true held = refl
      by false unheld = none unheld

module _ (d : Deleting) (bypassed : List (Id × Id)) (date : Text) (is_global : IsGlobal d.left.vers.now.global.now)
    (is_zone : IsZone d.left.zone.now) (lists : All (λ e. IsRising e.supby × IsRising e.waived) d.left.zone.now.entries)
    (dels : AreDeletions d) where
  abbrev choice : Choice
  choice = choice_of d

  abbrev zone : Zone
  zone = d.left.zone.now

  abbrev i : Installation
  i = installation d.left.vers.now.global.now (choice_of d) (number_in d.left.vers.now) d.left.zone.now d.kept.now
      bypassed date

  pub cleared_is : cleared i ≡ left_of d.left
  cleared_is = ap (λ ds. zone_less d.left.vers.now.global.now choice ds zone) (sym dels)

  itself : (x : Id) → ¬ Supersedes choice x x
  itself = never_itself d.left.vers.now.global.now d.left.vers.now.srel choice (looked_up d.left.vers.now)
      is_global.no_loop

  not_superseded : (x y : Id) → TakesEffect i x → TakesEffect i y → ¬ Supersedes choice y x
  not_superseded x y t by over =
      elim (same_or_not y x) [
        | inl same ↦ itself x (subst (λ v. Supersedes choice v x) same over)
        | inr other ↦ t.first y by.kept other over
      ]

  old_lists : (x : Id) → IsRising (old_entry zone x).supby × IsRising (old_entry zone x).waived
  old_lists x = by (entry_of zone x) refl
    where
      by : (o : Option Entry) → entry_of zone x ≡ o
          → IsRising (unwrap_or o (bare_entry x)).supby × IsRising (unwrap_or o (bare_entry x)).waived
      by None at = (none_rise, none_rise)
      by (Some e) at = All_find (λ e. IsRising e.supby × IsRising e.waived) (λ e. bytes_eq e.id x) zone.entries e lists
          at

  old_reads : {X : Type 0} (field : Option Entry → X) (x : Id) → field (Some (bare_entry x)) ≡ field None
      → field (Some (old_entry (left_of d.left) x)) ≡ field (entry_of (left_of d.left) x)
  old_reads field x bare = by (entry_of (left_of d.left) x)
    where
      by : (o : Option Entry) → field (Some (unwrap_or o (bare_entry x))) ≡ field o
      by None = bare
      by (Some e) = refl

  module _ (p : Plan) (plan : IsPlan i d.left.dels.now p) (start zone_edits : ZoneEdits)
      (put : HasPutEntries d p p.touched start zone_edits) (new : Zone)
      (changed : (x : Id) → entry_of new x ≡ entry_after zone_edits zone x) where
    -- an id that is not touched has the entry that is left of it
    module _ (x : Id) (out : ¬ Contains p.touched x) where
      apart : ¬ Contains (at_stake zone d.left.dels.now) x
      apart h = out (plan.touched x (inr h))

      stands : entry_of (left_of d.left) x ≡ entry_of zone x
      stands = entry_stays d dels is_zone x apart

      old_same : old_entry (left_of d.left) x ≡ old_entry zone x
      old_same = ap (λ o. unwrap_or o (bare_entry x)) stands

      untouched : IsMadeEntry d p x (old_entry (left_of d.left) x)
      untouched = record {
        after = record {
          id = old_id (left_of d.left) x;
          applied = λ takes. absurd (out (plan.touched x (inl (inl (Contains_from_is_in p.effective x takes)))));
          other = λ not_it. record {
            rest = ap {A = Option Id} {B = Entry} (λ k. record (old_entry (left_of d.left) x) { delby = k })
                (sym (delby_stays d dels is_zone x apart));
            supby = λ y. (
              λ h. Contains-append_left (old_entry (left_of d.left) x).supby (others_of p.superseders x) y h,
              λ h. elim (Contains-append_cases (old_entry (left_of d.left) x).supby (others_of p.superseders x) y h) [
                | inl old ↦ old
                | inr more ↦ absurd (out (plan.touched x (inl (inr (y, more)))))
              ],
            );
          };
          waives = old_waives d is_zone x;
        };
        supby = subst (λ (e : Entry). IsRising e.supby) (sym old_same) (old_lists x).0;
        waived = subst (λ (e : Entry). IsRising e.waived) (sym old_same) (old_lists x).1;
      }

    -- the entry that an id has in the new zone, if something holds it
    whole : (x : Id) → (e : Entry) × (entry_of new x ≡ if_held e) × IsMadeEntry d p x e
    whole x =
        elim (in_or_not p.touched x) [
          | inl h ↦ let f = put.put x h in (f.0, changed x ∙ f.1, f.2)
          | inr out ↦ (
            old_entry (left_of d.left) x,
            changed x ∙ put.others x out ∙ old_held zone is_zone x ∙ ap if_held (sym (old_same x out)),
            untouched x out,
          )
        ]

    abbrev made : Id → Entry
    made x = (whole x).0

    waives : (x : Id) → IsTrue (waives_applied (made x))
    waives x = (whole x).2.after.waives

    date_reads : (x : Id) → applied_of new x ≡ (made x).applied
    date_reads x = ap applied_in (whole x).1
        ∙ read (made x) (waives x) applied_in (λ unheld. sym (undated (made x) (waives x) unheld))

    supby_reads : (x : Id) → supby_of new x ≡ (made x).supby
    supby_reads x = ap supby_in (whole x).1
        ∙ read (made x) (waives x) supby_in (λ unheld. sym (unsuperseded (made x) (waives x) unheld))

    delby_reads : (x : Id) → delby_of new x ≡ (made x).delby
    delby_reads x = ap delby_in (whole x).1
        ∙ read (made x) (waives x) delby_in (λ unheld. sym (undeleted (made x) (waives x) unheld))

    waived_reads : (x : Id) → waived_of new x ≡ (made x).waived
    waived_reads x = ap waived_in (whole x).1
        ∙ read (made x) (waives x) waived_in (λ unheld. sym (unwaiving (made x) (waives x) unheld))

    applied_reads : (x : Id) → is_applied new x ≡ is_some (made x).applied
    applied_reads x = ap is_applied_in (whole x).1
        ∙ read (made x) (waives x) is_applied_in (λ unheld. sym (ap is_some (undated (made x) (waives x) unheld)))

    effect : (x : Id) → TakesEffect i x → IsAppliedEntry d p x (made x)
    effect x t = (whole x).2.after.applied (is_in_from_Contains p.effective x ((plan.effective x).1 t))

    other : (x : Id) → (¬ TakesEffect i x) → IsOtherEntry d p x (made x)
    other x out = (whole x).2.after.other (false_from_ne_true (is_in p.effective x)
        (λ h. out ((plan.effective x).0 (Contains_from_is_in p.effective x h))))

    takes_or_not : (x : Id) → TakesEffect i x ⊎ (¬ TakesEffect i x)
    takes_or_not x =
        elim (in_or_not p.effective x) [
          | inl h ↦ inl ((plan.effective x).0 h)
          | inr out ↦ inr (λ t. out ((plan.effective x).1 t))
        ]

    pub applied : (x : Id) → TakesEffect i x → applied_of new x ≡ Some (applied_with i x)
    applied x t =
        date_reads x ∙ ap (λ v. v.applied) (effect x t).rest
        ∙ ap (λ v. Some (an_applied v (number_in d.left.vers.now x))) plan.date

    pub not_applied : (x : Id) → (¬ TakesEffect i x) → applied_of new x ≡ applied_of (cleared i) x
    not_applied x out =
        date_reads x ∙ ap (λ v. v.applied) (other x out).rest ∙ old_reads applied_in x refl
        ∙ ap (λ z. applied_of z x) (sym cleared_is)

    pub not_waived : (x : Id) → (¬ TakesEffect i x) → waived_of new x ≡ waived_of (cleared i) x
    not_waived x out =
        waived_reads x ∙ ap (λ v. v.waived) (other x out).rest ∙ old_reads waived_in x refl
        ∙ ap (λ z. waived_of z x) (sym cleared_is)

    pub delby : (x : Id) → delby_of new x ≡ delby_after i x
    delby x =
        delby_reads x
        ∙ elim (takes_or_not x) [
          | inl t ↦ ap (λ v. v.delby) (effect x t).rest
          | inr out ↦ ap (λ v. v.delby) (other x out).rest
        ]
        ∙ delby_is d dels bypassed date x

    pub supby_rising : (x : Id) → IsRising (supby_of new x)
    supby_rising x = subst IsRising (sym (supby_reads x)) (whole x).2.supby

    pub waived_rising : (x : Id) → IsRising (waived_of new x)
    waived_rising x = subst IsRising (sym (waived_reads x)) (whole x).2.waived

    -- ---- what supersedes an id

    left_supby : (x : Id) → (old_entry (left_of d.left) x).supby ≡ supby_of (left_of d.left) x
    left_supby x = old_reads supby_in x refl

    supby_left : (x y : Id) → Contains (supby_of new x) y
        ↔ (Contains (supby_of (left_of d.left) x) y ⊎ (TakesEffect i y × Supersedes choice y x))
    supby_left x y =
        elim (takes_or_not x) [
          | inl t ↦
              let reads = supby_reads x ∙ ap (λ v. v.supby) (effect x t).rest ∙ left_supby x in (
                λ h. inl (subst (λ ys. Contains ys y) reads h),
                λ h. elim h [
                  | inl old ↦ subst (λ ys. Contains ys y) (sym reads) old
                  | inr by ↦ absurd (not_superseded x y t by.0 by.1)
                ],
              )
          | inr out ↦
              let olds : List Id = (old_entry (left_of d.left) x).supby in
              let more : List Id = others_of p.superseders x in (
                λ h. elim (Contains-append_cases olds more y (((other x out).supby y).0
                    (subst (λ ys. Contains ys y) (supby_reads x) h))) [
                      | inl old ↦ inl (subst (λ ys. Contains ys y) (left_supby x) old)
                      | inr new ↦ inr ((plan.superseders x y).0 new)
                    ],
                λ h. subst (λ ys. Contains ys y) (sym (supby_reads x)) (((other x out).supby y).1 (elim h [
                  | inl old ↦ Contains-append_left olds more y (subst (λ ys. Contains ys y) (sym (left_supby x)) old)
                  | inr by ↦ Contains-append_right olds more y ((plan.superseders x y).1 by)
                ])),
              )
        ]

    pub supby : (x y : Id) → Contains (supby_of new x) y
        ↔ (Contains (supby_of (cleared i) x) y ⊎ (TakesEffect i y × Supersedes choice y x))
    supby x y = subst (λ z. Contains (supby_of new x) y
        ↔ (Contains (supby_of z x) y ⊎ (TakesEffect i y × Supersedes choice y x))) (sym cleared_is) (supby_left x y)

    -- ---- what is supplied afterwards

    empty : (xs : List Id) → ((y : Id) → ¬ Contains xs y) → xs ≡ []
    empty [] none = refl
    empty (x ∷ xs) none = absurd (none x (here x xs))

    parted : (zone : Zone) (z : Id) → is_supplied zone z ≡ false → (is_applied zone z ≡ false) × (supby_of zone z ≡ [])
    parted zone z = by (is_applied zone z) (supby_of zone z)
      where
        by : (b : Bool) (ys : List Id) → (b || not (is_nil ys)) ≡ false → (b ≡ false) × (ys ≡ [])
        by true ys none = absurd (true≢false none)
        by false [] none = (refl, refl)
        by false (y ∷ ys) none = absurd (true≢false none)

    unsupplied : (zone : Zone) (z : Id) → is_applied zone z ≡ false → supby_of zone z ≡ [] → is_supplied zone z ≡ false
    unsupplied zone z applied supby = ap (λ b. b || not (is_nil (supby_of zone z))) applied
        ∙ ap (λ ys. not (is_nil ys)) supby

    left_applied : (z : Id) → (¬ TakesEffect i z) → is_applied new z ≡ is_applied (left_of d.left) z
    left_applied z out =
        applied_reads z ∙ ap (λ v. is_some v.applied) (other z out).rest ∙ old_reads is_applied_in z refl

    open_stays : (z : Id) → IsTrue (is_open d p z) → IsFalse (is_supplied new z)
    open_stays z h =
        let both = and_parts (not (is_in p.effective z) && is_nil (others_of p.superseders z))
        (not (is_supplied (left_of d.left) z)) h in
        let first = and_parts (not (is_in p.effective z)) (is_nil (others_of p.superseders z)) both.0 in
        let free : ¬ TakesEffect i z = λ t. true≢false (sym (is_in_from_Contains p.effective z ((plan.effective z).1 t))
        ∙ not-true (is_in p.effective z) first.0) in
        let none = parted (left_of d.left) z (not-true (is_supplied (left_of d.left) z) both.1) in
        unsupplied new z (left_applied z free ∙ none.0) (empty (supby_of new z) (λ y there.
        elim ((supby_left z y).0 there) [
          | inl old ↦ none_in y (subst (λ ys. Contains ys y) none.1 old)
          | inr by ↦ none_in y (subst (λ ys. Contains ys y) (nil_is (others_of p.superseders z) first.1)
              ((plan.superseders z y).1 by))
        ]))
      where
        nil_is : (ys : List Id) → is_nil ys ≡ true → ys ≡ []
        nil_is [] is = refl
        nil_is (y ∷ ys) is = absurd (true≢false (sym is))

    open_was : (z : Id) → IsFalse (is_supplied new z) → IsTrue (is_open d p z)
    open_was z none =
        let parts = parted new z none in
        let free : ¬ TakesEffect i z = λ t. true≢false (sym (applied_reads z
        ∙ ap (λ v. is_some v.applied) (effect z t).rest) ∙ parts.0) in
        let nobody : (y : Id) → ¬ Contains (supby_of new z) y =
        λ y there. none_in y (subst (λ ys. Contains ys y) parts.1 there) in
        let out : is_in p.effective z ≡ false =
        false_from_ne_true (is_in p.effective z) (λ h. free ((plan.effective z).0
        (Contains_from_is_in p.effective z h))) in
        let alone : others_of p.superseders z ≡ [] =
        empty (others_of p.superseders z) (λ y there. nobody y ((supby_left z y).1
        (inr ((plan.superseders z y).0 there)))) in
        let before : is_supplied (left_of d.left) z ≡ false =
        unsupplied (left_of d.left) z (sym (left_applied z free) ∙ parts.0)
        (empty (supby_of (left_of d.left) z) (λ y there. nobody y ((supby_left z y).1 (inl there)))) in
        ap (λ b. not b && is_nil (others_of p.superseders z) && not (is_supplied (left_of d.left) z)) out
        ∙ ap (λ ys. is_nil ys && not (is_supplied (left_of d.left) z)) alone ∙ ap not before

    pub waived : (x z : Id) → TakesEffect i x → Contains (waived_of new x) z ↔
        (Contains i.bypassed (x, z) × IsFalse (is_supplied new z))
    waived x z t =
        let e = effect x t in (
          λ h.
              let both = (e.waived.members z).0 (subst (λ zs. Contains zs z) (waived_reads x) h) in
              ((plan.bypassed x z).0 both.0, open_stays z both.1),
          λ h. subst (λ zs. Contains zs z) (sym (waived_reads x)) ((e.waived.members z).1
              ((plan.bypassed x z).1 h.0, open_was z h.1)),
        )
