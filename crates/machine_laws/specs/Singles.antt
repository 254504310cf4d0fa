-- If no SYSMOD has two ++VERs of one SREL, and each was installed by the first, then the ++VER of the SREL counts,
-- several never fit, and RESTORE asks about a level only whether it is applied.
use Rattle.std.specs.Prelude.{◌≡◌, ◌↔◌, List, Option, true, Contains, Any, IsFalse}
use Rattle.std.specs.Option.{option_map_or}
use Rattle.terms.specs.Types.{Text, Id, NamedZone, Selection, Bypass, Zone}
use Rattle.terms.specs.Lookups.{at_most_one, changes_of, element_of}
use Rattle.terms.specs.Choice.{Choice, vers_of, counting}
use Rattle.terms.specs.Tests.{Setting, HasSeveralFit}
use Rattle.terms.specs.Restore.{are_applied, ChangesOtherLevel}
use Rattle.terms.specs.Closed.{AreClosed}
use Rattle.store_schema.specs.Inventory.{Inventory}
use Rattle.store_schema.specs.Earlier.{IsOfEarlier}
use Rattle.machine.specs.Installing.{Decision, IsDecision}

-- The ++VERs for the SREL are the one that counts, or there are none.
abbrev pub OneCounts : Type 0
OneCounts =
    (i : Inventory) → IsOfEarlier i → (z : NamedZone) → Contains i.zones z → (cands : List Id) (x : Id)
    → at_most_one (counting i.global z.zone cands x) ≡ vers_of i.global z.zone.srel x

abbrev pub NeverSeveralFit : Type 0
NeverSeveralFit = (i : Inventory) → IsOfEarlier i → (s : Setting) → s.global ≡ i.global → (x : Id)
    → ¬ HasSeveralFit s x

-- What is installed is installed by number 1.
abbrev pub FirstInstalls : Type 0
FirstInstalls =
    (i : Inventory) → IsOfEarlier i → (zone : Zone) (related : Option Zone) (sel : Selection) (bypass : Bypass)
    (date : Text) (d : Decision) → IsDecision i.global zone related sel bypass date d
    → (x : Id) → Contains d.kept x → d.installing.number x ≡ 1

abbrev pub LevelAsksApplied : Type 0
LevelAsksApplied =
    (i : Inventory) → IsOfEarlier i → AreClosed i.global i.zones → (target distribution : NamedZone)
    → Contains i.zones target → Contains i.zones distribution → (c : Choice) (x : Id)
    → ChangesOtherLevel (record {
      global = i.global;
      choice = c;
      zone = target.zone;
      accepted = distribution.zone;
    }) x ↔ Any (λ h. IsFalse (option_map_or (are_applied target.zone)
    (element_of distribution.zone h.elem_type h.name) true)) (changes_of i.global x)
