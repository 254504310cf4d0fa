-- What an APPLY or ACCEPT started from, what it decided, and the zone that it left.
use Rattle.std.specs.Prelude.{[], Option}
use Rattle.terms.specs.Types.{Text, Global, Zone, Selection, Bypass}
use Rattle.terms.specs.Lookups.{IsZone}
use Rattle.terms.specs.Choice.{counting}
use Rattle.terms.specs.Global.{IsGlobal}
use Rattle.terms.specs.Install.{HasInstalled}
use Rattle.terms.specs.Closed.{IsClosedZone}
use Rattle.machine.specs.Installing.{Decision, IsDecision}

-- The zone that it started from is closed.
pub record IsInstall (g : Global) (zone : Zone) (related : Option Zone) (sel : Selection) (bypass : Bypass)
    (date : Text) (d : Decision) (new : Zone) : Type 0 where
  pub global : IsGlobal g
  pub is_zone : IsZone zone
  pub decides : IsDecision g zone related sel bypass date d
  pub installs : HasInstalled d.installing new
  pub closed : IsClosedZone g (counting g zone []) zone
