-- Where APPLY, ACCEPT and RESTORE run, what they look at, and what they decide before the commit.
use Rattle.std.specs.Prelude.{◌≡◌, Bool, false, List, Option, None, Some, Result, Ok, Err, if◌then◌else◌}
use Rattle.std.specs.Option.{option_and_then}
use Rattle.std.specs.Str.{bytes_eq}
use Rattle.indexmap.specs.IndexMap.{get}
use Rattle.terms.specs.declared.kinds.ZoneKind.{ZoneKind}
use Rattle.terms.specs.declared.kinds.ZoneKind.TheVariants.{Target, Distribution}
use Rattle.terms.specs.Types.{Text, Zone, NamedZone, Install, Command, Apply, Accept}
use Rattle.zones_maps.specs.Delta.{ZoneDelta, IsChanged, KnowsStood}
use Rattle.machine.specs.Machine.{Files, Performs}
use Rattle.machine.specs.Outcome.{Outcome}
use Rattle.machine.specs.State.{State, zone_named, with_zone, target_of, at_kind, unless_at}
use Rattle.report.specs.declared.outcome.Refusal.{Refusal}
use Rattle.report.specs.Views.{refusal_view}
use Rattle.store_schema.specs.Inventory.{IsInventory}
use Rattle.store.specs.declared.change.Change.{Change}
use Rattle.store.specs.Kept.{kept}
use Rattle.store.specs.Own.{IsOfZone, IsOwnOf}
use Rattle.smpe_session.specs.declared.session.Session.{Session}
use Rattle.smpe_session.specs.Sessions.{IsSessionOf}

-- the command that installs into a zone of this kind
abbrev pub install_command : ZoneKind → Install → Command
install_command Target i = Apply i
install_command Distribution i = Accept i

-- the other zone at which it looks: ACCEPT at the related target zone
abbrev pub related_for : ZoneKind → List NamedZone → Text → Option Zone
related_for Target zones = λ name. None
related_for Distribution zones = target_of zones

-- The session has the other zone at which the command looks, under this name.
pub record HasRelated (s : State) (at : Session) (kind : ZoneKind) (related : Option Text) : Type 0 where
  pub session : IsSessionOf s at
  pub is_related : (name : Text) → s.boundary ≡ Some name
      → option_and_then (get bytes_eq at.zones) related ≡ related_for kind s.zones name

-- The boundary names a zone of the kind, which the session has.
pub record IsPlace (s : State) (at : Session) (kind : ZoneKind) (name : Text) (zone : Zone) : Type 0 where
  pub boundary : s.boundary ≡ Some name
  pub has : get bytes_eq at.zones name ≡ Some zone
  pub is_there : zone_named s.zones name ≡ Some zone
  pub kind_is : zone.kind ≡ kind
  pub fits : unless_at (at_kind kind s) s ≡ None

-- It is this zone, or otherwise the command is refused.
abbrev pub HasPlace : State → Session → ZoneKind → {V : Type 0} → (V → Text) → (V → Zone) → Result V Refusal → Type 0
HasPlace s at kind name zone (Ok v) = IsPlace s at kind (name v) (zone v)
HasPlace s at kind name zone (Err why) = unless_at (at_kind kind s) s ≡ Some (refusal_view why)

-- The command changes this zone of the session in this way and has this outcome. If it only checks, the state stays.
-- Otherwise a change of a zone is its own.
pub record ChangesZone (date : Text) (files : Files) (c : Command) (s : State) (at : Session) (name : Text)
    (delta : ZoneDelta) (check : Bool) (outcome : Outcome) : Type 0 where
  pub zone : Zone
  pub has : get bytes_eq at.zones name ≡ Some zone
  pub is_there : zone_named s.zones name ≡ Some zone
  pub boundary : s.boundary ≡ Some name
  pub knows : KnowsStood zone delta
  pub owns : check ≡ false → (change : Change) → IsOfZone change → IsOwnOf c change
  pub performs : (new : Zone) → IsChanged delta zone new
      → Performs date files s c (if check then s else with_zone s name new) outcome
  pub inventory : (new : Zone) → IsChanged delta zone new → IsInventory (kept s)
      → IsInventory (kept (with_zone s name new))
