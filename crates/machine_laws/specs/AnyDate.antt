-- What an APPLY or ACCEPT of given ids prints, on any date.
use Rattle.std.specs.Prelude.{◌≡◌, ◌↔◌, Bool, List, Option, Contains}
use Rattle.terms.specs.Global.{IsGlobal}
use Rattle.terms.specs.Lookups.{IsRising}
use Rattle.terms.specs.Types.{Text, Id, Global, Zone, Bypass, Selection}
use Rattle.machine.specs.Outcome.{Line}
use Rattle.machine.specs.Installing.{InstallsSelected}
use Rattle.machine_laws.specs.Clear.{selecting}

-- SELECT names exactly these ids.
pub record Selects (ids : List Id) (groupextend : Bool) (sel : Selection) : Type 0 where
  pub rising : IsRising sel.select
  pub members : (x : Id) → Contains sel.select x ↔ Contains ids x
  pub selection : sel ≡ selecting sel.select groupextend

-- Any two that select these ids with this BYPASS have the same lines, whatever their dates.
abbrev pub PrintsTheSame : Type 0
PrintsTheSame =
    (g : Global) (zone : Zone) (related : Option Zone) (bypass : Bypass) (ids : List Id) (groupextend : Bool)
    → IsGlobal g
    → (sel : Selection) → Selects ids groupextend sel → (date : Text) (new : Zone) (lines : List Line)
    → InstallsSelected g zone related sel bypass date new lines
    → (other : Selection) → Selects ids groupextend other → (later : Text) (newer : Zone) (more : List Line)
    → InstallsSelected g zone related other bypass later newer more → lines ≡ more
