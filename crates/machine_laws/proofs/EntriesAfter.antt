-- The entries of a zone after an installation have their forms.
use Rattle.std.proofs.Common.{◌≡◌, inl, inr, Bool, true, false, not, List, [], ◌∷◌, Option, Some, None, All}
use Rattle.std.proofs.Common.{Contains, IfSome, IsTrue, refl, sym, ◌∙◌, ap, subst, get_or, filter}
use Rattle.std.specs.Prelude.{if◌then◌else◌, ◌&&◌, ◌||◌, slice_get, is_some}
use Rattle.std.specs.Option.{option_map_or, option_and_then}
use Rattle.std.specs.Str.{bytes_eq}
use Rattle.std.specs.Cmp.Lexicographic.{texts_ties}
use Rattle.std.proofs.lemmas.Bool.{and_parts, or_cases}
use Rattle.std.proofs.lemmas.Cmp.{nat_list_cmp_total}
use Rattle.std.proofs.lemmas.List.Elements.{All-contains, All-contains_itself}
use Rattle.std.proofs.lemmas.Option.{same_Some}
use Rattle.terms.proofs.ListMembers.{here, filter_in}
use Rattle.terms.proofs.Places.{contains_at}
use Rattle.terms.specs.Types.{Id, Entry, Zone, Applied}
use Rattle.terms.specs.Lookups.{is_nil, IsRising, is_in, is_function, has_content, waives_applied, entry_of, applied_of}
use Rattle.terms.specs.Lookups.{supby_of, delby_of, waived_of}
use Rattle.terms.specs.Choice.{del_of}
use Rattle.terms.specs.Deleted.{deletions, is_deleted, is_taken_out}
use Rattle.terms.specs.Install.{Installation, TakesEffect, applied_with, cleared, deleters, delby_after, HasInstalled}
use Rattle.terms.specs.Forms.{IsId}
use Rattle.terms.proofs.Ids.{Contains_from_is_in}
use Rattle.terms.proofs.Nil.{nil_from}
use Rattle.store_schema.specs.Forms.{AreSorted, HasAppliedForms, HasEntryForms}
use Rattle.machine_laws.proofs.Lists.{find_itself}
use Rattle.machine_laws.proofs.Stable.{Stable, by_either, part_of, stable_id, stable_applied}
use Rattle.machine_laws.proofs.LessForms.{applied_forms, supby_forms, delby_forms, waived_forms}
use Rattle.machine_laws.proofs.OperandForms.{function_form, del_form, superseded_form}
use Rattle.machine_laws.proofs.GivenForms.{HasInstallForms, cleared_forms, effect_form}

module _ (i : Installation) (has : HasInstallForms i) where
  -- a kept SYSMOD that passes a test
  kept_passes : (test : Id → Bool) (y : Id) → Contains (filter test i.kept) y → IsTrue (test y) × IsId y
  kept_passes test y there =
      let from = filter_in test i.kept y there in
      (from.1, All-contains IsId i.kept y has.kept from.0)

  -- what deletes x
  deleter_forms : (x y : Id) → Contains (deleters i x) y → IsId x × IsId y
  deleter_forms x y =
      by (is_function i.global x && is_taken_out i.global i.choice (deletions i.choice i.kept) i.zone x) refl
    where
      by : (b : Bool)
          → (is_function i.global x && is_taken_out i.global i.choice (deletions i.choice i.kept) i.zone x) ≡ b
          → Contains (if b then filter (λ k. is_deleted i.global i.choice (del_of i.choice k) x) i.kept
          else filter (λ k. is_in (del_of i.choice k) x) i.kept) y → IsId x × IsId y
      by true is there = (
        function_form i.global has.sysmods x (and_parts _ _ is).0,
        (kept_passes (λ k. is_deleted i.global i.choice (del_of i.choice k) x) y there).1,
      )
      by false is there =
          let passes = kept_passes (λ k. is_in (del_of i.choice k) x) y there in
          (del_form i.choice has.vers y x (Contains_from_is_in (del_of i.choice y) x passes.0), passes.1)

  delby_after_forms : (x y : Id) → delby_after i x ≡ Some y → IsId x × IsId y
  unfolding delby_after
  delby_after_forms x y = by (delby_of i.zone x) refl
    where
      by : (d : Option Id) → delby_of i.zone x ≡ d
          → (if is_some d then d else slice_get (deleters i x) 0) ≡ Some y → IsId x × IsId y
      by None was at = deleter_forms x y (contains_at (deleters i x) 0 y at)
      by (Some d) was at = delby_forms i.zone has.zone x y (was ∙ at)

  -- What the new zone says of an id.
  module _ (new : Zone) (installs : HasInstalled i new) where
    applied_after : (x : Id) (a : Applied) → applied_of new x ≡ Some a → IsId x × HasAppliedForms a
    applied_after x a at = by_either {A = TakesEffect i x} stable
        (λ effect. (
          effect_form i has x effect,
          subst HasAppliedForms (same_Some (applied_with i x) a (sym (installs.applied x effect) ∙ at))
              (record { date = has.date; least = (has.numbers x).0; most = (has.numbers x).1 }),
        ))
        (λ none. applied_forms (cleared i) (cleared_forms i has) x a (sym (installs.not_applied x none) ∙ at))
      where
        stable : Stable (IsId x × HasAppliedForms a)
        stable h = (part_of (λ f. f.0) (stable_id x) h, part_of (λ f. f.1) (stable_applied a) h)

    supby_after : (x y : Id) → Contains (supby_of new x) y → IsId x × IsId y
    supby_after x y there = elim ((installs.supby x y).0 there) [
      | inl old ↦ supby_forms (cleared i) (cleared_forms i has) x y old
      | inr by ↦ (superseded_form i.choice has.vers y x by.1, effect_form i has y by.0)
    ]

    waived_after : (x z : Id) → Contains (waived_of new x) z → IsId z
    waived_after x z there = by_either {A = TakesEffect i x} (stable_id z)
        (λ effect. has.bypassed x z ((installs.waived x z effect).0 there).0)
        (λ none. (waived_forms (cleared i) (cleared_forms i has) x z
        (subst (λ ids. Contains ids z) (installs.not_waived x none) there)).1)

    delby_forms_after : (x y : Id) → delby_of new x ≡ Some y → IsId x × IsId y
    delby_forms_after x y at = delby_after_forms x y (sym (installs.delby x) ∙ at)

    -- an entry is there for a date, for SUPBY or for DELBY
    entry_id : (e : Entry) → entry_of new e.id ≡ Some e → IsTrue (has_content e) → IsId e.id
    entry_id e found held = elim (or_cases (is_some e.applied || not (is_nil e.supby)) (is_some e.delby) held) [
      | inl first ↦ elim (or_cases (is_some e.applied) (not (is_nil e.supby)) first) [
        | inl applied ↦ by_date e.applied (ap (option_and_then (λ e. e.applied)) found) applied
        | inr some ↦ by_supby e.supby (ap (λ o. option_map_or (λ e. e.supby) o []) found) some
      ]
      | inr deleted ↦ by_delby e.delby (ap (option_and_then (λ e. e.delby)) found) deleted
    ]
      where
        by_date : (o : Option Applied) → applied_of new e.id ≡ o → is_some o ≡ true → IsId e.id
        by_date None at some = absurd (cc some)
        by_date (Some a) at some = (applied_after e.id a at).0

        by_supby : (ids : List Id) → supby_of new e.id ≡ ids → not (is_nil ids) ≡ true → IsId e.id
        by_supby [] at some = absurd (cc some)
        by_supby (y ∷ ys) at some = (supby_after e.id y (subst (λ ids. Contains ids y) (sym at) (here y ys))).0

        by_delby : (o : Option Id) → delby_of new e.id ≡ o → is_some o ≡ true → IsId e.id
        by_delby None at some = absurd (cc some)
        by_delby (Some y) at some = (delby_forms_after e.id y at).0

    entry_after : (e : Entry) → Contains new.entries e → HasEntryForms e
    entry_after e there =
        let found : entry_of new e.id ≡ Some e =
        find_itself nat_list_cmp_total (λ (e : Entry). e.id) bytes_eq texts_ties new.entries e installs.is_zone.entries
        there in
        let applied : applied_of new e.id ≡ e.applied = ap (option_and_then (λ (e : Entry). e.applied)) found in
        let supby : supby_of new e.id ≡ e.supby = ap (λ o. option_map_or (λ (e : Entry). e.supby) o []) found in
        let delby : delby_of new e.id ≡ e.delby = ap (option_and_then (λ (e : Entry). e.delby)) found in
        let waived : waived_of new e.id ≡ e.waived = ap (λ o. option_map_or (λ (e : Entry). e.waived) o []) found in
        record {
          id = entry_id e found (All-contains (λ e. IsTrue (has_content e)) new.entries e installs.is_zone.held there);
          applied = applied_as e.applied applied;
          supby = listed supby (λ y is. (supby_after e.id y is).1) (installs.supby_rising e.id);
          delby = deleter_of e.delby delby;
          waived = listed waived (waived_after e.id) (installs.waived_rising e.id);
          waived_if_applied = λ some. elim (or_cases (is_some e.applied) (is_nil e.waived)
              (All-contains (λ e. IsTrue (waives_applied e)) new.entries e installs.is_zone.waived there)) [
                | inl is ↦ is
                | inr none ↦ absurd (some (nil_from e.waived none))
              ];
        }
      where
        applied_as : (o : Option Applied) → applied_of new e.id ≡ o → IfSome o HasAppliedForms
        applied_as None at = tt
        applied_as (Some a) at = (applied_after e.id a at).1

        deleter_of : (o : Option Id) → delby_of new e.id ≡ o → IfSome o IsId
        deleter_of None at = tt
        deleter_of (Some y) at = (delby_forms_after e.id y at).1

        listed : {ids now : List Id} → now ≡ ids → ((y : Id) → Contains now y → IsId y) → IsRising now
            → AreSorted IsId ids
        listed {now = now} same each rising = subst (AreSorted IsId) same (record {
          each = λ k d below. each (get_or now k d) (All-contains_itself now k d below);
          rising = rising;
        })

    pub entries_after : All HasEntryForms new.entries
    entries_after = λ k d below. entry_after (get_or new.entries k d) (All-contains_itself new.entries k d below)
