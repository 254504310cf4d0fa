-- What a zone with the entries that an install makes says of each id is what the install asks for.
use Rattle.std.proofs.Common.{◌≡◌, ◌∙◌, ◌⊎◌, inl, inr, Bool, true, false, not, List, [], ◌∷◌, Option, None, Some}
use Rattle.std.proofs.Common.{Contains, IsTrue, filter, refl, sym, ap, subst, true≢false, is_some}
use Rattle.std.specs.Prelude.{◌↔◌, ◌||◌, IsFalse, if◌then◌else◌}
use Rattle.std.specs.Option.{option_map_or, option_and_then}
use Rattle.std.specs.Str.{bytes_eq}
use Rattle.std.proofs.lemmas.Bool.{false_from_ne_true, not-true}
use Rattle.terms.proofs.ListMembers.{none_in, in_map, map_in, filter_in, in_filter}
use Rattle.terms.proofs.Searches.{All_find}
use Rattle.terms.proofs.TextOrder.{same_from, same_itself}
use Rattle.terms.specs.Types.{Id, Entry, Zone, Applied}
use Rattle.terms.specs.Lookups.{IsRising, is_nil, is_in, has_content, waives_applied, entry_of, applied_of}
use Rattle.terms.specs.Lookups.{supby_of, delby_of, waived_of, is_supplied}
use Rattle.terms.specs.Deleted.{deletions}
use Rattle.terms.specs.Over.{Supersedes}
use Rattle.terms.specs.Install.{Installation, TakesEffect, applied_with, cleared, delby_after}
use Rattle.terms.proofs.Ids.{is_in_from_Contains, Contains_from_is_in}
use Rattle.store_schema.specs.Forms.{HasEntryForms, HasZoneForms}
use Rattle.change.specs.Entries.{bare_entry, if_held}
use Rattle.machine_laws.proofs.LessForms.{none_listed, zone_less_forms}
use Rattle.machine_laws.proofs.Effective.{IsSoundInstall, effective, in_effective, superseders, in_superseders}
use Rattle.machine_laws.proofs.EntryAfter.{applied_after, supby_after, supplied_after, bypassed_of, waived_after, made}
use Rattle.machine_laws.proofs.EntryAfter.{waives}
use Rattle.machine_laws.proofs.JoinedIds.{joined, joined_rises, in_joined}
use Rattle.terms.proofs.SameZones.{an_entry}

-- what nothing holds is bare
bare : (x : Id) (applied : Option Applied) (supby : List Id) (delby : Option Id) (waived : List Id)
    → has_content (an_entry x applied supby delby waived) ≡ false
    → IsTrue (waives_applied (an_entry x applied supby delby waived))
    → an_entry x applied supby delby waived ≡ bare_entry x
bare x None [] None [] unheld waives = refl
bare x None [] None (w ∷ ws) unheld waives = absurd (true≢false (sym waives))
bare x None [] (Some k) waived unheld waives = absurd (true≢false unheld)
bare x None (y ∷ ys) delby waived unheld waives = absurd (true≢false unheld)
bare x (Some t) supby delby waived unheld waives = absurd (true≢false unheld)

module _ (i : Installation) (sound : IsSoundInstall i) where
  lists_rise : (x : Id) → IsRising (supby_of (cleared i) x) × IsRising (waived_of (cleared i) x)
  lists_rise x = by (entry_of (cleared i) x) refl
    where
      forms : HasZoneForms (cleared i)
      forms = zone_less_forms i.global i.choice (deletions i.choice i.kept) i.zone sound.forms

      by : (o : Option Entry) → entry_of (cleared i) x ≡ o
          → IsRising (option_map_or (λ e. e.supby) o []) × IsRising (option_map_or (λ e. e.waived) o [])
      by None at = (none_listed.rising, none_listed.rising)
      by (Some e) at =
          let has = All_find HasEntryForms (λ e. bytes_eq e.id x) (cleared i).entries e forms.entries at in
          (has.supby.rising, has.waived.rising)

  takes : (x : Id) → TakesEffect i x → is_in (effective i sound) x ≡ true
  takes x effect = is_in_from_Contains (effective i sound) x ((in_effective i sound x).1 effect)

  takes_not : (x : Id) → (¬ TakesEffect i x) → is_in (effective i sound) x ≡ false
  takes_not x none = false_from_ne_true (is_in (effective i sound) x) (λ is.
      none ((in_effective i sound x).0 (Contains_from_is_in (effective i sound) x is)))

  in_bypassed : (x z : Id) → Contains (bypassed_of i sound x) z ↔ Contains i.bypassed (x, z)
  unfolding bypassed_of
  in_bypassed x z = (
    λ there.
        let from = map_in (λ (p : Id × Id). p.1) (filter (λ p. bytes_eq p.0 x) i.bypassed) z there in
        let both = filter_in (λ p. bytes_eq p.0 x) i.bypassed from.0 from.1 in
        subst (Contains i.bypassed)
        (ap (λ (y : Id). (y, from.0.1)) (same_from from.0.0 x both.1) ∙ ap (λ (w : Id). (x, w)) from.2) both.0,
    λ there. in_map (λ (p : Id × Id). p.1) (filter (λ p. bytes_eq p.0 x) i.bypassed) (x, z)
        (in_filter (λ p. bytes_eq p.0 x) i.bypassed (x, z) there (same_itself x)),
  )

  -- A zone has these entries.
  module _ (new : Zone) (entries : (x : Id) → entry_of new x ≡ if_held (made i sound x)) where
    read : {X : Type 0} (field : Option Entry → X) (x : Id) → field None ≡ field (Some (bare_entry x))
        → field (entry_of new x) ≡ field (Some (made i sound x))
    unfolding made
    read field x none = ap field (entries x) ∙ by (has_content (made i sound x)) refl
      where
        by : (b : Bool) → has_content (made i sound x) ≡ b
            → field (if b then Some (made i sound x) else None) ≡ field (Some (made i sound x))
        by true held = refl
        by false unheld = none ∙ ap (λ e. field (Some e)) (sym (bare x (applied_after i sound x) (supby_after i sound x)
            (delby_after i x) (waived_after i sound x) unheld (waives i sound x)))

    date_after : (x : Id) → applied_of new x ≡ applied_after i sound x
    unfolding made
    date_after x = read (option_and_then (λ e. e.applied)) x refl

    supby_is : (x : Id) → supby_of new x ≡ supby_after i sound x
    unfolding made
    supby_is x = read (λ o. option_map_or (λ e. e.supby) o []) x refl

    waived_is : (x : Id) → waived_of new x ≡ waived_after i sound x
    unfolding made
    waived_is x = read (λ o. option_map_or (λ e. e.waived) o []) x refl

    supplied_is : (z : Id) → is_supplied new z ≡ supplied_after i sound z
    unfolding made supplied_after
    supplied_is z =
        ap (λ b. b || not (is_nil (supby_of new z)))
        (read (λ o. option_map_or (λ e. is_some e.applied) o false) z refl)
        ∙ ap (λ ys. is_some (applied_after i sound z) || not (is_nil ys)) (supby_is z)

    pub applied : (x : Id) → TakesEffect i x → applied_of new x ≡ Some (applied_with i x)
    unfolding applied_after
    applied x effect =
        date_after x ∙ ap (λ b. if b then Some (applied_with i x) else applied_of (cleared i) x) (takes x effect)

    pub not_applied : (x : Id) → (¬ TakesEffect i x) → applied_of new x ≡ applied_of (cleared i) x
    unfolding applied_after
    not_applied x none =
        date_after x ∙ ap (λ b. if b then Some (applied_with i x) else applied_of (cleared i) x) (takes_not x none)

    pub supby_rising : (x : Id) → IsRising (supby_of new x)
    unfolding supby_after
    supby_rising x = subst IsRising (sym (supby_is x))
        (joined_rises (supby_of (cleared i) x) (superseders i sound x) (lists_rise x).0)

    pub supby : (x y : Id) → Contains (supby_of new x) y
        ↔ (Contains (supby_of (cleared i) x) y ⊎ (TakesEffect i y × Supersedes i.choice y x))
    unfolding supby_after
    supby x y =
        let within = in_joined (supby_of (cleared i) x) (superseders i sound x) y in (
          λ there. elim (within.0 (subst (λ ys. Contains ys y) (supby_is x) there)) [
            | inl old ↦ inl old
            | inr new ↦ inr ((in_superseders i sound x y).0 new)
          ],
          λ from. subst (λ ys. Contains ys y) (sym (supby_is x)) (within.1 (elim from [
            | inl old ↦ inl old
            | inr by ↦ inr ((in_superseders i sound x y).1 by)
          ])),
        )

    pub delby : (x : Id) → delby_of new x ≡ delby_after i x
    unfolding made
    delby x = read (option_and_then (λ e. e.delby)) x refl

    left_open : Id → List Id
    left_open x = joined [] (filter (λ z. not (supplied_after i sound z)) (bypassed_of i sound x))

    waived_effect : (x : Id) → TakesEffect i x → waived_of new x ≡ left_open x
    unfolding waived_after left_open
    waived_effect x effect =
        waived_is x ∙ ap (λ b. if b then left_open x else waived_of (cleared i) x) (takes x effect)

    pub not_waived : (x : Id) → (¬ TakesEffect i x) → waived_of new x ≡ waived_of (cleared i) x
    unfolding waived_after left_open
    not_waived x none =
        waived_is x ∙ ap (λ b. if b then left_open x else waived_of (cleared i) x) (takes_not x none)

    pub waived_rising : (x : Id) → IsRising (waived_of new x)
    unfolding waived_after
    waived_rising x = subst IsRising (sym (waived_is x)) (by (is_in (effective i sound) x))
      where
        by : (b : Bool) → IsRising (if b
            then joined [] (filter (λ z. not (supplied_after i sound z)) (bypassed_of i sound x))
            else waived_of (cleared i) x)
        by true =
            joined_rises [] (filter (λ z. not (supplied_after i sound z)) (bypassed_of i sound x)) none_listed.rising
        by false = (lists_rise x).1

    pub waived : (x z : Id) → TakesEffect i x → Contains (waived_of new x) z
        ↔ (Contains i.bypassed (x, z) × IsFalse (is_supplied new z))
    unfolding left_open
    waived x z effect =
        let some : List Id = filter (λ z. not (supplied_after i sound z)) (bypassed_of i sound x) in (
          λ there. elim ((in_joined [] some z).0 (subst (λ zs. Contains zs z) (waived_effect x effect) there)) [
            | inl none ↦ absurd (none_in z none)
            | inr is ↦
                let both = filter_in (λ z. not (supplied_after i sound z)) (bypassed_of i sound x) z is in
                ((in_bypassed x z).0 both.0, supplied_is z ∙ not-true (supplied_after i sound z) both.1)
          ],
          λ both. subst (λ zs. Contains zs z) (sym (waived_effect x effect)) ((in_joined [] some z).1 (inr
              (in_filter (λ z. not (supplied_after i sound z)) (bypassed_of i sound x) z ((in_bypassed x z).1 both.0)
              (ap not (sym (supplied_is z) ∙ both.1))))),
        )
