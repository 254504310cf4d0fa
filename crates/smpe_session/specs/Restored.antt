-- The other zone at which RESTORE looks.
use Rattle.std.specs.Prelude.{◌≡◌, Option, Some}
use Rattle.std.specs.Option.{option_and_then}
use Rattle.std.specs.Str.{bytes_eq}
use Rattle.indexmap.specs.IndexMap.{get}
use Rattle.terms.specs.Types.{Text, Zone}
use Rattle.machine.specs.State.{State, zone_named}
use Rattle.smpe_session.specs.declared.session.Session.{Session}
use Rattle.smpe_session.specs.Sessions.{IsSessionOf}

-- The session has the zone to which that of the boundary is related, under this name.
pub record HasAccepted (s : State) (at : Session) (accepted : Option Text) : Type 0 where
  pub session : IsSessionOf s at
  pub is_related : (name : Text) (zone : Zone) → s.boundary ≡ Some name → zone_named s.zones name ≡ Some zone
      → option_and_then (get bytes_eq at.zones) accepted ≡ option_and_then (zone_named s.zones) zone.related
