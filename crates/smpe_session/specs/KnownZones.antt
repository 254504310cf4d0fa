-- What a session knows about zones.
use Rattle.std.specs.Prelude.{◌≡◌, ◌⊎◌, IsTrue, All, Bool, ◌||◌, IsSome, is_some, List}
use Rattle.std.specs.Str.{bytes_eq}
use Rattle.indexmap.specs.IndexMap.{get}
use Rattle.terms.specs.Types.{Text, NamedZone}
use Rattle.machine.specs.State.{State, global_name, zone_named}
use Rattle.smpe_session.specs.declared.session.Session.{Session}
use Rattle.smpe_session.specs.Sessions.{IsSessionOf}

-- whether SET may name it
abbrev pub is_known : List NamedZone → Text → Bool
is_known zones name = bytes_eq name global_name || is_some (zone_named zones name)

-- The session knows whether there is such a zone, and has it then.
pub record IsSought (s : State) (at : Session) (name : Text) (answer : Bool) : Type 0 where
  pub session : IsSessionOf s at
  pub found : answer ≡ is_known s.zones name
  pub here : IsTrue answer → (name ≡ global_name) ⊎ IsSome (get bytes_eq at.zones name)

-- The session knows for each name whether there is such a zone, and has those that exist.
pub record AreSought (s : State) (at : Session) (names : List Text) : Type 0 where
  pub session : IsSessionOf s at
  pub here : All (λ name. IsTrue (is_known s.zones name) → (name ≡ global_name) ⊎ IsSome (get bytes_eq at.zones name))
      names

-- The session has each zone of the state.
pub record HasAllZones (s : State) (at : Session) : Type 0 where
  pub session : IsSessionOf s at
  pub zones : (name : Text) → get bytes_eq at.zones name ≡ zone_named s.zones name
