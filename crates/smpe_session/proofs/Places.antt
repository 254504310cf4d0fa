-- Where commands may run, by the boundary.
use Rattle.std.proofs.Common.{◌≡◌, ◌≢◌, ◌∙◌, ◌==◌, Bool, true, false, not, List, All, Option, Some, None, refl, sym, ap}
use Rattle.std.proofs.Common.{inl, inr, IsTrue}
use Rattle.std.specs.Prelude.{if◌then◌else◌, is_some, find, option_map}
use Rattle.std.specs.Option.{option_map_or, option_and_then}
use Rattle.std.specs.Str.{bytes_eq}
use Rattle.indexmap.specs.IndexMap.{get}
use Rattle.terms.specs.declared.kinds.ZoneKind.{ZoneKind}
use Rattle.terms.specs.declared.kinds.ZoneKind.TheVariants.{Target, Distribution}
use Rattle.terms.specs.Types.{Text, zone_number, Zone, NamedZone, Id, ReceiveOperands, Receive, Reject, Install}
use Rattle.terms.specs.Types.{Restore, RestoreList}
use Rattle.terms.proofs.TextOrder.{same_from, same_itself}
use Rattle.terms.proofs.Searches.{All_find, find_gives}
use Rattle.machine.specs.Outcome.{Refusal, NoBoundary, WrongKind}
use Rattle.store_schema.specs.Inventory.{IsInventory, IsZoneNamed}
use Rattle.machine.specs.State.{State, global_name, zone_named, at_global, at_kind, unless_at, misplaced}
use Rattle.store.specs.Kept.{kept}
use Rattle.smpe_session.specs.declared.session.Session.{Session}
use Rattle.smpe_session.specs.Sessions.{IsSessionOf}
use Rattle.smpe_session.specs.Places.{install_command}

-- whether the boundary is the global zone
abbrev refusal_at : Option Text → Option Refusal
refusal_at boundary = if not (is_some boundary) then Some NoBoundary
    else if option_map_or (bytes_eq global_name) boundary
    false then None else Some WrongKind

pub receive_at : (s : State) (what : ReceiveOperands) → unless_at (at_global s) s ≡ misplaced s (Receive what)
unfolding misplaced
receive_at s what = refl

pub reject_at : (s : State) (ids : List Id) → unless_at (at_global s) s ≡ misplaced s (Reject ids)
unfolding misplaced
reject_at s ids = refl

by_boundary : (s : State) → unless_at (at_global s) s ≡ refusal_at s.boundary
by_boundary s = refl

pub at_nowhere : (s : State) → s.boundary ≡ None → Some NoBoundary ≡ unless_at (at_global s) s
at_nowhere s at = sym (by_boundary s ∙ ap refusal_at at)

pub at_global_holds : (s : State) (name : Text) → s.boundary ≡ Some name → name ≡ global_name
    → None ≡ unless_at (at_global s) s
at_global_holds s name at is =
    sym (by_boundary s ∙ ap refusal_at (at ∙ ap Some is) ∙ ap (λ b. if b then None else Some WrongKind)
    (same_itself global_name))

pub at_elsewhere : (s : State) (name : Text) → s.boundary ≡ Some name → name ≢ global_name
    → Some WrongKind ≡ unless_at (at_global s) s
at_elsewhere s name at other = sym (by_boundary s ∙ ap refusal_at at ∙ by (bytes_eq global_name name) refl)
  where
    by : (b : Bool) → bytes_eq global_name name ≡ b → (if b then None else Some WrongKind) ≡ Some WrongKind
    by true same = absurd (other (sym (same_from global_name name same)))
    by false differs = refl

-- whether it names a zone of this kind
abbrev refusal_of_kind : ZoneKind → Option Text → Option Zone → Option Refusal
refusal_of_kind kind boundary zone = if not (is_some boundary) then Some NoBoundary else if option_map_or
    (λ z. zone_number z.kind == zone_number kind) zone false then None else Some WrongKind

pub install_at : (s : State) (kind : ZoneKind) (i : Install) → misplaced s (install_command kind i)
    ≡ unless_at (at_kind kind s) s
unfolding misplaced
install_at s Target i = refl
install_at s Distribution i = refl

pub restore_at : (s : State) (what : RestoreList) (check : Bool) → misplaced s (Restore what check)
    ≡ unless_at (at_kind Target s) s
unfolding misplaced
restore_at s what check = refl

by_kind : (s : State) (kind : ZoneKind) → unless_at (at_kind kind s) s ≡ refusal_of_kind kind s.boundary
    (option_and_then (zone_named s.zones) s.boundary)
by_kind s kind = refl

pub kind_nowhere : (s : State) (kind : ZoneKind) → s.boundary ≡ None → unless_at (at_kind kind s) s
    ≡ Some NoBoundary
kind_nowhere s kind at = by_kind s kind
    ∙ ap (λ b. refusal_of_kind kind b (option_and_then (zone_named s.zones) b)) at

at_zone : (s : State) (kind : ZoneKind) (name : Text) (found : Option Zone) → s.boundary ≡ Some name
    → zone_named s.zones name ≡ found → unless_at (at_kind kind s) s ≡ refusal_of_kind kind (Some name) found
at_zone s kind name found at there = by_kind s kind
    ∙ ap (λ b. refusal_of_kind kind b (option_and_then (zone_named s.zones) b)) at
    ∙ ap (refusal_of_kind kind (Some name)) there

same_kind : (kind : ZoneKind) → IsTrue (zone_number kind == zone_number kind)
same_kind Target = refl
same_kind Distribution = refl

other_kind : (a b : ZoneKind) → a ≢ b → (zone_number a == zone_number b) ≡ false
other_kind Target Target other = absurd (other refl)
other_kind Target Distribution other = refl
other_kind Distribution Target other = refl
other_kind Distribution Distribution other = absurd (other refl)

pub kind_fits : (s : State) (kind : ZoneKind) (name : Text) (zone : Zone) → s.boundary ≡ Some name
    → zone_named s.zones name ≡ Some zone → zone.kind ≡ kind → unless_at (at_kind kind s) s ≡ None
kind_fits s kind name zone at there is = at_zone s kind name (Some zone) at there
    ∙ ap (λ k. if zone_number k == zone_number kind then None else Some WrongKind) is
    ∙ ap (λ b. if b then None else Some WrongKind) (same_kind kind)

pub kind_other : (s : State) (kind : ZoneKind) (name : Text) (zone : Zone) → s.boundary ≡ Some name
    → zone_named s.zones name ≡ Some zone → zone.kind ≢ kind → unless_at (at_kind kind s) s ≡ Some WrongKind
kind_other s kind name zone at there other = at_zone s kind name (Some zone) at there
    ∙ ap (λ b. if b then None else Some WrongKind) (other_kind zone.kind kind other)

-- no zone of an inventory has the global zone's name
pub none_global : (zones : List NamedZone) → All IsZoneNamed zones → zone_named zones global_name ≡ None
none_global zones all = by (find (λ z. bytes_eq z.name global_name) zones) refl
  where
    by : (z : Option NamedZone) → find (λ z. bytes_eq z.name global_name) zones ≡ z
        → option_map (λ z. z.zone) (find (λ z. bytes_eq z.name global_name) zones) ≡ None
    by None at = ap (option_map (λ z. z.zone)) at
    by (Some z) at = absurd ((All_find IsZoneNamed (λ z. bytes_eq z.name global_name) zones z all at).not_global
        (same_from z.name global_name (find_gives (λ z. bytes_eq z.name global_name) zones z at).0))

-- a boundary that is no zone of the session is the global zone
pub kind_global : (s : State) (at : Session) (kind : ZoneKind) (name : Text) → IsSessionOf s at
    → IsInventory (kept s) → s.boundary ≡ Some name → get bytes_eq at.zones name ≡ None
    → unless_at (at_kind kind s) s ≡ Some WrongKind
kind_global s at kind name is inventory named none = at_zone s kind name None named
    (elim (is.current name named) [
      | inl same ↦ ap (zone_named s.zones) same ∙ none_global s.zones inventory.zones
      | inr some ↦ absurd (cc (sym (ap is_some none) ∙ some))
    ])
