-- APPLY and ACCEPT keep the forms of a zone, so that the changed inventory is one.
use Rattle.std.proofs.Common.{◌≡◌, List, Option, Some, None, refl, sym, ◌∙◌, ap, subst, All}
use Rattle.std.specs.Prelude.{find, option_map}
use Rattle.std.specs.Str.{bytes_eq}
use Rattle.std.specs.Ordering.{nat_cmp}
use Rattle.std.specs.Cmp.Lexicographic.{slice_cmp}
use Rattle.terms.proofs.Searches.{All_find}
use Rattle.terms.specs.Types.{Text, Zone, NamedZone, Bypass, Selection}
use Rattle.terms.specs.Rising.{with_item}
use Rattle.terms.specs.Install.{Installation, HasInstalled}
use Rattle.terms.specs.Forms.{IsSrel, IsDottedDate}
use Rattle.store_schema.specs.Forms.{HasZoneForms}
use Rattle.store_schema.specs.Inventory.{Inventory, IsInventory, IsZoneNamed}
use Rattle.machine.specs.Outcome.{Line}
use Rattle.machine.specs.Installing.{InstallsSelected}
use Rattle.machine.specs.State.{zone_named}
use Rattle.machine_laws.proofs.GivenForms.{HasInstallForms}
use Rattle.machine_laws.proofs.EntriesAfter.{entries_after}
use Rattle.machine_laws.proofs.ElementsAfter.{elements_after}
use Rattle.machine_laws.proofs.Decisions.{decision_forms}
use Rattle.machine_laws.proofs.ZonesKept.{zone_kept}

-- An installation keeps the forms of the zone.
pub installed_forms : (i : Installation) → HasInstallForms i → (new : Zone) → HasInstalled i new → HasZoneForms new
installed_forms i has new installs = record {
  srel = subst IsSrel (sym (ap (λ z. z.srel) installs.rest)) has.zone.srel;
  entries = entries_after i has new installs;
  elements = elements_after i has new installs;
}

pub named_forms : (zones : List NamedZone) (name : Text) (zone : Zone) → All IsZoneNamed zones
    → zone_named zones name ≡ Some zone → HasZoneForms zone
named_forms zones name zone all found = by (find (λ z. bytes_eq z.name name) zones) refl
  where
    by : (z : Option NamedZone) → find (λ z. bytes_eq z.name name) zones ≡ z → HasZoneForms zone
    by None at = absurd (cc (sym found ∙ ap (option_map (λ z. z.zone)) at))
    by (Some z) at =
        let same : Some z.zone ≡ Some zone = sym (ap (option_map (λ z. z.zone)) at) ∙ found in
        let is : z.zone ≡ zone = cc same in
        subst HasZoneForms is (All_find IsZoneNamed (λ z. bytes_eq z.name name) zones z all at).forms

-- What is selected and installed in a zone of an inventory leads to an inventory.
pub apply_kept : (i : Inventory) (name : Text) (old new : Zone) (related : Option Zone) (sel : Selection)
    (bypass : Bypass) (date : Text) (lines : List Line) → IsInventory i → zone_named i.zones name ≡ Some old
    → InstallsSelected i.global old related sel bypass date new lines → IsDottedDate date
    → IsInventory (record i {
      zones = with_item (slice_cmp nat_cmp) (λ (z : NamedZone). z.name) i.zones
          (record { name = name; zone = new });
    })
apply_kept i name old new related sel bypass date lines is found installs dated =
    let was = named_forms i.zones name old is.zones found in
    let d = installs.decision in
    let given = decision_forms i.global is.sysmods old was related sel bypass date dated d installs.decides in
    let made = installs.decides.installing in
    zone_kept i name old new is found (subst (λ n. HasInstalled n new) made installs.installs).rest
    installs.installs.is_zone (installed_forms d.installing given new installs.installs)
