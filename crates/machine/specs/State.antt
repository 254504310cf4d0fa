-- The machine's state, where a command may run, and how zones are defined.
-- (IBM z/OS SMP/E Commands, the SET command; Reference, the GLOBALZONE, TARGETZONE and DLIBZONE entries.)
use Rattle.std.specs.Prelude.{◌&&◌, ◌||◌, ◌==◌, Bool, false, not, List, [], length, find, option_map, Option, None}
use Rattle.std.specs.Prelude.{Some, is_some, Result, Ok, Err, codes, nat_le, if◌then◌else◌}
use Rattle.std.specs.List.{list_any}
use Rattle.std.specs.Option.{option_map_or, option_and_then}
use Rattle.std.specs.Str.{bytes_eq}
use Rattle.std.specs.Cmp.Lexicographic.{slice_cmp}
use Rattle.std.specs.Ordering.{nat_cmp}
use Rattle.terms.specs.declared.kinds.ZoneKind.{ZoneKind}
use Rattle.terms.specs.declared.kinds.ZoneKind.TheVariants.{Target, Distribution}
use Rattle.terms.specs.Types.{Srel, ZoneName, zone_number, Global, Zone, a_zone, NamedZone, Command, Set, Receive}
use Rattle.terms.specs.Types.{Reject, Apply}
use Rattle.terms.specs.Types.{Accept, Restore, ListZone, Report, is_distribution}
use Rattle.terms.specs.Rising.{with_item}
use Rattle.machine.specs.Outcome.{Refusal, NoBoundary, NoZone, WrongKind}

-- the global zone, the target and distribution zones rising by name, and the boundary that the last SET gave
pub record State : Type 0 where
  pub global : Global
  pub zones : List NamedZone
  pub boundary : Option ZoneName

abbrev pub global_name : ZoneName
global_name = codes "GLOBAL"

-- the zone of this name
abbrev pub zone_named : List NamedZone → ZoneName → Option Zone
zone_named zones name = option_map (λ z. z.zone) (find (λ z. bytes_eq z.name name) zones)

-- the zone that the boundary names; none if that is the global zone
abbrev pub current_zone : State → Option Zone
current_zone s = option_and_then (zone_named s.zones) s.boundary

-- the target zone that is related to a distribution zone, if there is one
abbrev pub target_of : List NamedZone → ZoneName → Option Zone
target_of zones name = option_map (λ z. z.zone) (find (λ z. option_map_or (bytes_eq name) z.zone.related false) zones)

-- the state with this zone in place of the one of its name
abbrev pub with_zone : State → ZoneName → Zone → State
with_zone s name zone = record s {
  zones = with_item (slice_cmp nat_cmp) (λ z. z.name) s.zones
      (record { name = name; zone = zone });
}

-- whether the boundary is the global zone, a zone of this kind, or a zone of any kind
abbrev pub at_global : State → Bool
at_global s = option_map_or (bytes_eq global_name) s.boundary false

abbrev pub at_kind : ZoneKind → State → Bool
at_kind kind s = option_map_or (λ z. zone_number z.kind == zone_number kind) (current_zone s) false

abbrev pub at_zone : State → Bool
at_zone s = is_some (current_zone s)

-- why a command of these kinds cannot run at this boundary: there is none, or it is of another kind
abbrev pub unless_at : Bool → State → Option Refusal
unless_at fits s = if not (is_some s.boundary) then Some NoBoundary else if fits then None else Some WrongKind

-- why the command cannot run at this boundary, or that SET names no zone
unfoldable pub misplaced : State → Command → Option Refusal
misplaced s (Set name) = if bytes_eq name global_name || is_some (zone_named s.zones name) then None
    else Some NoZone
misplaced s (Receive what) = unless_at (at_global s) s
misplaced s (Reject ids) = unless_at (at_global s) s
misplaced s (Apply i) = unless_at (at_kind Target s) s
misplaced s (Accept i) = unless_at (at_kind Distribution s) s
misplaced s (Restore ids check) = unless_at (at_kind Target s) s
misplaced s (ListZone text) = unless_at (at_global s || at_zone s) s
misplaced s Report = unless_at (at_zone s) s

-- what defines a zone: its name, kind and SREL, and the name of a related zone
pub record ZoneDefinition : Type 0 where
  pub name : ZoneName
  pub kind : ZoneKind
  pub srel : Srel
  pub related : Option ZoneName

-- NameTaken: a zone has the name, or the name is GLOBAL. WrongRelated: a target zone needs a distribution zone to which
-- no other is related, and a distribution zone has no related zone. OtherSrel: the related zone has another SREL.
-- TooMany: 64 zones are defined.
pub data ZoneFault : Type 0 where
  NameTaken : ZoneFault
  WrongRelated : ZoneFault
  OtherSrel : ZoneFault
  TooMany : ZoneFault

-- whether some zone names this one as its related zone
abbrev pub is_related : List NamedZone → ZoneName → Bool
is_related zones name = list_any (λ z. option_map_or (bytes_eq name) z.zone.related false) zones

-- whether it is a distribution zone to which no target zone is related
abbrev pub is_free : List NamedZone → ZoneName → Bool
is_free zones name =
    option_map_or (λ z. is_distribution z.kind) (zone_named zones name) false
    && not (is_related zones name)

-- whether the related zone suits the kind: for a target zone an unrelated distribution zone, for a distribution zone
-- none
abbrev pub has_right_related : List NamedZone → ZoneKind → Option ZoneName → Bool
has_right_related zones Target related = option_map_or (is_free zones) related false
has_right_related zones Distribution related = not (is_some related)

-- whether the related zone, if there is one, has this SREL
abbrev pub has_same_srel : List NamedZone → Srel → Option ZoneName → Bool
has_same_srel zones srel related =
    option_map_or (λ name. option_map_or (λ z. bytes_eq z.srel srel) (zone_named zones name) false) related
    (not (is_some related))

-- the zones with one more, which is empty, or the first fault that applies
unfoldable pub define_zone : State → ZoneDefinition → Result State ZoneFault
define_zone s d =
    if bytes_eq d.name global_name || is_some (zone_named s.zones d.name) then Err NameTaken
    else if not (has_right_related s.zones d.kind d.related) then Err WrongRelated
    else if not (has_same_srel s.zones d.srel d.related) then Err OtherSrel
    else if nat_le 64 (length s.zones) then Err TooMany
    else Ok (with_zone s d.name (a_zone d.kind d.srel d.related [] []))
