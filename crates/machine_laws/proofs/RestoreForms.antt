-- RESTORE keeps the forms of a target zone, so that the changed inventory is one.
use Rattle.std.proofs.Common.{◌≡◌, Bool, true, false, List, Option, None, Some, All, Contains, get_or, refl, sym}
use Rattle.std.proofs.Common.{◌∙◌, ap, subst}
use Rattle.std.specs.List.{list_any}
use Rattle.std.specs.Option.{option_and_then}
use Rattle.std.specs.Ordering.{nat_cmp}
use Rattle.std.specs.Cmp.Lexicographic.{slice_cmp}
use Rattle.std.proofs.lemmas.List.Elements.{All-contains_itself}
use Rattle.std.proofs.lemmas.List.Folds.{Any-from_list_any}
use Rattle.terms.proofs.Searches.{All_from_no_list_any}
use Rattle.terms.specs.Types.{Text, Id, Element, Zone, NamedZone, RestoreList}
use Rattle.terms.specs.Lookups.{is_in, element_eq, element_key, element_of, has_change}
use Rattle.terms.specs.Rising.{with_item}
use Rattle.terms.specs.Restore.{Restoring, Restores}
use Rattle.terms.specs.Forms.{IsSrel}
use Rattle.terms.proofs.ElementOrder.{element_cmp_total, element_ties}
use Rattle.store_schema.specs.Forms.{HasEntryForms, HasElementForms, HasZoneForms}
use Rattle.store_schema.specs.Inventory.{Inventory, IsInventory, IsZoneNamed}
use Rattle.machine.specs.Outcome.{Line}
use Rattle.machine.specs.Restoring.{RestoresListed}
use Rattle.machine.specs.State.{zone_named}
use Rattle.machine_laws.proofs.InstallForms.{named_forms}
use Rattle.machine_laws.proofs.LessForms.{entries_less_forms, element_forms}
use Rattle.machine_laws.proofs.Lists.{find_itself}
use Rattle.machine_laws.proofs.ZonesKept.{zone_kept}

module _ (r : Restoring) (kept : List Id) (new : Zone) (target : HasZoneForms r.zone)
    (distribution : HasZoneForms r.accepted) (restores : Restores r kept new) where
  -- an element is the distribution zone's or the target zone's
  in_zone : (e : Element) → Contains new.elements e → HasElementForms e
  in_zone e there = by (list_any (λ x. has_change r.global x e.elem_type e.name) kept) refl
    where
      found : element_of new e.elem_type e.name ≡ Some e
      found = find_itself element_cmp_total element_key element_eq element_ties new.elements e
          restores.is_zone.elements there

      by : (b : Bool) → list_any (λ x. has_change r.global x e.elem_type e.name) kept ≡ b → HasElementForms e
      by true some =
          element_forms r.accepted distribution e.elem_type e.name e
          (sym (restores.reverted e.elem_type e.name
          (Any-from_list_any (λ x. has_change r.global x e.elem_type e.name) kept some)) ∙ found)
      by false none =
          element_forms r.zone target e.elem_type e.name e
          (sym (restores.others e.elem_type e.name
          (All_from_no_list_any (λ x. has_change r.global x e.elem_type e.name) kept none)) ∙ found)

  -- A restore keeps the forms of the zone.
  pub restored_forms : HasZoneForms new
  restored_forms = record {
    srel = subst IsSrel (sym (ap (λ z. z.srel) restores.rest)) target.srel;
    entries = subst (All HasEntryForms) (sym restores.entries)
        (entries_less_forms (is_in kept) r.zone.entries target.entries);
    elements = λ k d below. in_zone (get_or new.elements k d) (All-contains_itself new.elements k d below);
  }

-- the distribution zone that a target zone names
related_forms : (zones : List NamedZone) (name : Option Text) (accepted : Zone) → All IsZoneNamed zones
    → option_and_then (zone_named zones) name ≡ Some accepted → HasZoneForms accepted
related_forms zones None accepted all found = absurd (cc found)
related_forms zones (Some name) accepted all found = named_forms zones name accepted all found

-- What is restored in a target zone of an inventory leads to an inventory.
pub restore_kept : (i : Inventory) (name : Text) (old accepted new : Zone) (what : RestoreList) (lines : List Line)
    → IsInventory i → zone_named i.zones name ≡ Some old
    → option_and_then (zone_named i.zones) old.related ≡ Some accepted
    → RestoresListed i.global old accepted what new lines
    → IsInventory (record i {
      zones = with_item (slice_cmp nat_cmp) (λ (z : NamedZone). z.name) i.zones
          (record { name = name; zone = new });
    })
restore_kept i name old accepted new what lines is found beside restores =
    let target = named_forms i.zones name old is.zones found in
    let distribution = related_forms i.zones old.related accepted is.zones beside in
    let of_target : HasZoneForms restores.setting.zone =
    subst HasZoneForms (sym (ap (λ (r : Restoring). r.zone) restores.setting_is)) target in
    let of_distribution : HasZoneForms restores.setting.accepted =
    subst HasZoneForms (sym (ap (λ (r : Restoring). r.accepted) restores.setting_is)) distribution in
    zone_kept i name old new is found
    (subst (λ (r : Restoring). Restores r restores.kept new) restores.setting_is restores.restores).rest
    restores.restores.is_zone
    (restored_forms restores.setting restores.kept new of_target of_distribution restores.restores)
