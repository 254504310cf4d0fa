-- For an applied SYSMOD the ++VER counts by which it was installed, whatever is applied later.
use Rattle.std.specs.Prelude.{◌≡◌, List, Option, Some, IsTrue}
use Rattle.terms.specs.Types.{Text, Id, Global, Zone, Selection, Bypass}
use Rattle.terms.specs.Lookups.{IsZone, is_applied}
use Rattle.terms.specs.Choice.{counting}
use Rattle.terms.specs.Install.{HasInstalled}
use Rattle.terms.specs.Closed.{AreClosed}
use Rattle.store_schema.specs.Inventory.{IsInventory}
use Rattle.machine.specs.Outcome.{Outcome}
use Rattle.machine.specs.Installing.{Decision, IsDecision}
use Rattle.machine.specs.State.{State, zone_named}
use Rattle.machine.specs.Machine.{Act, Steps}

-- For a SYSMOD that is applied in the old zone and in the new one, the same ++VER counts in both, whatever the
-- candidates are.
abbrev pub KeepsChoice : Global → Zone → Global → Zone → Type 0
KeepsChoice g old h new =
    (x : Id) (cands later : List Id) → IsTrue (is_applied old x) → IsTrue (is_applied new x)
    → counting h new later x ≡ counting g old cands x

-- After an install, the ++VER that counts for each applied SYSMOD is the one that counted in the install.
abbrev pub InstallKeepsChoice : Type 0
InstallKeepsChoice =
    (g : Global) (zone : Zone) (related : Option Zone) (sel : Selection) (bypass : Bypass) (date : Text) (d : Decision)
    (new : Zone) → IsZone zone → IsDecision g zone related sel bypass date d → HasInstalled d.installing new
    → (x : Id) (later : List Id) → IsTrue (is_applied new x) → counting g new later x ≡ d.setting.choice x

-- After each act, the ++VER that counts for a SYSMOD that was applied in a zone, and still is, is the one that counted
-- before.
abbrev pub StepKeepsChoice : Type 0
StepKeepsChoice =
    (s t : State) (a : Act) (outcomes : List Outcome) → IsInventory (record { global = s.global; zones = s.zones })
    → AreClosed s.global s.zones → Steps s a t outcomes → (name : Text) (old new : Zone)
    → zone_named s.zones name ≡ Some old → zone_named t.zones name ≡ Some new
    → KeepsChoice s.global old t.global new
