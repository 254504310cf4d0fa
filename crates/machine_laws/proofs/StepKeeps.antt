-- Each act of the machine leads from an inventory whose zones are closed to such a one.
use Rattle.std.proofs.Common.{◌≡◌, inl, inr, Bool, true, false, List, [], Option, None, Some, All}
use Rattle.std.proofs.Common.{IsTrue, refl, sym, ◌∙◌, ap, subst, arith}
use Rattle.std.specs.Prelude.{Result, Ok, Err, find, map, option_map, if◌then◌else◌}
use Rattle.std.specs.Option.{option_and_then}
use Rattle.std.specs.Str.{bytes_eq}
use Rattle.std.specs.Ordering.{nat_cmp}
use Rattle.std.specs.Cmp.Lexicographic.{slice_cmp, texts_ties}
use Rattle.std.proofs.lemmas.Cmp.{nat_list_cmp_total}
use Rattle.std.proofs.lemmas.List.Elements.{All-weaker}
use Rattle.terms.proofs.Pairs.{pairs_unmap}
use Rattle.terms.proofs.Searches.{All_find}
use Rattle.terms.specs.declared.kinds.ZoneKind.{ZoneKind}
use Rattle.terms.specs.declared.kinds.ZoneKind.TheVariants.{Target, Distribution}
use Rattle.terms.specs.Types.{Text, Global, Zone, a_zone, NamedZone, ReceiveOperands, Install, RestoreList, Command, Set}
use Rattle.terms.specs.Types.{Receive, Reject, Apply, Accept, Restore, ListZone, Report}
use Rattle.terms.specs.Rising.{with_item}
use Rattle.terms.specs.Lookups.{IsZone, is_before, IsRising}
use Rattle.terms.specs.Choice.{Choice, counting}
use Rattle.terms.specs.Forms.{IsDottedDate}
use Rattle.terms.specs.Closed.{IsClosedZone, AreClosed}
use Rattle.terms.proofs.Placing.{All_with_item}
use Rattle.store_schema.specs.Forms.{HasZoneForms}
use Rattle.store_schema.specs.Inventory.{IsZoneNamed, IsRelated, empty_inventory}
use Rattle.machine.specs.Outcome.{Outcome}
use Rattle.machine.specs.State.{State, zone_named, target_of, with_zone, ZoneDefinition, ZoneFault, define_zone}
use Rattle.machine.specs.Machine.{Files, Takes, TakesAll, TakesNone, TakesNoHold, Rejects, InstallsThere, RestoresThere}
use Rattle.machine.specs.Machine.{RunsThere, Act, Begin, Perform, Faulty, Define, state_after, Steps}
use Rattle.machine_laws.proofs.Lists.{find_itself}
use Rattle.machine_laws.proofs.Defined.{defined}
use Rattle.machine_laws.specs.Storable.{IsStorable, HasActForms}
use Rattle.machine_laws.proofs.StepForms.{step_storable}
use Rattle.machine_laws.proofs.InstallKeeps.{apply_keeps_closed}
use Rattle.machine_laws.proofs.ReceiveKeeps.{receive_keeps_closed}
use Rattle.machine_laws.proofs.RejectKeeps.{reject_keeps_closed}
use Rattle.machine_laws.proofs.RestoreKeeps.{restore_keeps_closed}

-- What is stored is an inventory, and all its zones are closed.
pub record IsClosedState (s : State) : Type 0 where
  pub storable : IsStorable s
  pub closed : AreClosed s.global s.zones

-- all zones of a state are closed
abbrev HasClosedZones : State → Type 0
HasClosedZones s = AreClosed s.global s.zones

-- ---- zones by their names

-- what all zones have, the zone of a name has
pub named_has : (P : Zone → Type 0) (zones : List NamedZone) (name : Text) (zone : Zone)
    → All (λ (z : NamedZone). P z.zone) zones → zone_named zones name ≡ Some zone → P zone
named_has P zones name zone all found = by (find (λ z. bytes_eq z.name name) zones) refl
  where
    by : (o : Option NamedZone) → find (λ z. bytes_eq z.name name) zones ≡ o → P zone
    by None at = absurd (cc (sym found ∙ ap (option_map (λ z. z.zone)) at))
    by (Some z) at =
        let same : Some z.zone ≡ Some zone = sym (ap (option_map (λ z. z.zone)) at) ∙ found in
        let is : z.zone ≡ zone = cc same in
        subst P is (All_find (λ (z : NamedZone). P z.zone) (λ z. bytes_eq z.name name) zones z all at)

-- the zone that a zone names as related has its SREL
related_srel : (zones : List NamedZone) → IsRising (map (λ z. z.name) zones) → (kind : ZoneKind) (srel : Text)
    (related : Option Text) (accepted : Zone) → IsRelated zones kind srel related
    → option_and_then (zone_named zones) related ≡ Some accepted → accepted.srel ≡ srel
related_srel zones rising Target srel None accepted is found = absurd is
related_srel zones rising Target srel (Some name) accepted (z, there, named, kind, has) found =
    let rises = pairs_unmap (λ (a b : NamedZone). IsTrue (is_before a.name b.name))
    (λ (x y : Text). IsTrue (is_before x y)) (λ z. z.name) (λ a b lower. lower) zones rising in
    let itself = find_itself nat_list_cmp_total (λ (z : NamedZone). z.name) bytes_eq texts_ties zones z rises there in
    let is : Some z.zone ≡ Some accepted = sym (ap (option_map (λ (z : NamedZone). z.zone)) itself)
    ∙ ap (zone_named zones) named ∙ found in
    let same : z.zone ≡ accepted = cc is in
    ap (λ (v : Zone). v.srel) (sym same) ∙ has
related_srel zones rising Distribution srel related accepted is found =
    absurd (cc (sym found ∙ ap (option_and_then (zone_named zones)) is))

-- ---- zones that come in

-- a closed zone in place of the one of its name
placed_closed : (g : Global) (zones : List NamedZone) (z : NamedZone) → AreClosed g zones
    → IsClosedZone g (counting g z.zone []) z.zone
    → AreClosed g (with_item (slice_cmp nat_cmp) (λ (z : NamedZone). z.name) zones z)
placed_closed g zones z closed is = All_with_item (slice_cmp nat_cmp) (λ (z : NamedZone). z.name)
    (λ z. IsClosedZone g (counting g z.zone []) z.zone) zones z closed is

-- A zone without entries and elements is closed.
pub empty_closed : (g : Global) (c : Choice) (kind : ZoneKind) (srel : Text) (related : Option Text)
    → IsClosedZone g c (a_zone kind srel related [] [])
empty_closed g c kind srel related = record {
  supported = λ k d below. absurd (omega arith);
  at_peace = λ k d below. absurd (omega arith);
  supby = λ k d below. absurd (omega arith);
  elements = λ k d below. absurd (omega arith);
}

-- So are the zones of the empty inventory: there are none.
pub none_closed : AreClosed empty_inventory.global empty_inventory.zones
none_closed = λ k d below. absurd (omega arith)

defined_closed : (s t : State) (d : ZoneDefinition) → define_zone s d ≡ Ok t → HasClosedZones s → HasClosedZones t
defined_closed s t d answers closed = subst HasClosedZones (defined s t d answers).adds
    (placed_closed s.global s.zones (record { name = d.name; zone = a_zone d.kind d.srel d.related [] [] }) closed
    (empty_closed s.global (counting s.global (a_zone d.kind d.srel d.related [] []) []) d.kind d.srel d.related))

-- ---- commands

taken_closed : (files : Files) (s : State) (what : ReceiveOperands) (t : State) (outcome : Outcome)
    → Takes files s what t outcome → HasClosedZones s → HasClosedZones t
taken_closed files s what t outcome (TakesAll items holds middle g lines more reads held runs runs_holds) closed =
    receive_keeps_closed what.source items holds s.global middle g lines more s.zones runs runs_holds closed
taken_closed files s what t outcome (TakesNone fault reads is_fault) closed = closed
taken_closed files s what t outcome (TakesNoHold items fault has reads is_fault) closed = closed

pub each_zone : (s : State) → IsStorable s → All (λ (z : NamedZone). IsZone z.zone) s.zones
each_zone s is = All-weaker IsZoneNamed (λ z. IsZone z.zone) (λ z has. has.zone) s.zones is.zones

rejects_closed : (s : State) (ids : List Text) (t : State) (outcome : Outcome) → Rejects s ids t outcome
    → IsClosedState s → HasClosedZones t
rejects_closed s ids t outcome r is = subst HasClosedZones (sym r.state)
    (reject_keeps_closed s.zones (each_zone s is.storable) ids s.global r.new r.lines r.runs is.closed)

-- CHECK changes nothing
if_checked : (check : Bool) (s t : State) → HasClosedZones s → HasClosedZones t
    → HasClosedZones (if check then s else t)
if_checked true s t closed later = closed
if_checked false s t closed later = later

restores_closed : (s : State) (what : RestoreList) (check : Bool) (t : State) (outcome : Outcome)
    → RestoresThere s what check t outcome → IsClosedState s → HasClosedZones t
restores_closed s what check t outcome r is = subst HasClosedZones (sym r.state)
    (if_checked check s (with_zone s r.name r.new) is.closed
    (placed_closed s.global s.zones (record { name = r.name; zone = r.new }) is.closed
    (restore_keeps_closed s.global r.zone r.accepted what r.new r.lines r.restores is.storable.global
    (named_has IsZone s.zones r.name r.zone (each_zone s is.storable) r.is_there)
    (related_srel s.zones is.storable.names r.zone.kind r.zone.srel r.zone.related r.accepted
    (named_has (λ z. IsRelated s.zones z.kind z.srel z.related) s.zones r.name r.zone is.storable.related
    r.is_there) r.related)
    (closed_of r.zone r.name r.is_there) (accepted_closed r.zone.related r.related))))
  where
    closed_of : (zone : Zone) (name : Text) → zone_named s.zones name ≡ Some zone
        → IsClosedZone s.global (counting s.global zone []) zone
    closed_of zone name = named_has (λ z. IsClosedZone s.global (counting s.global z []) z) s.zones name zone is.closed

    accepted_closed : (related : Option Text) → option_and_then (zone_named s.zones) related ≡ Some r.accepted
        → IsClosedZone s.global (counting s.global r.accepted []) r.accepted
    accepted_closed None found = absurd (cc found)
    accepted_closed (Some name) found = closed_of r.accepted name found

installs_closed : (date : Text) (s : State) (c : Command) (i : Install) (related : Text → Option Zone) (t : State)
    (outcome : Outcome) → IsDottedDate date → InstallsThere date s c i related t outcome → IsClosedState s
    → HasClosedZones t
installs_closed date s c i related t outcome dated r is = subst HasClosedZones (sym r.state)
    (if_checked i.check s (with_zone s r.name r.new) is.closed
    (placed_closed s.global s.zones (record { name = r.name; zone = r.new }) is.closed
    (apply_keeps_closed (record { global = s.global; zones = s.zones }) r.zone (related r.name) i.selection i.bypass
    date r.new r.lines is.storable
    (named_has IsZone s.zones r.name r.zone (each_zone s is.storable) r.is_there)
    (named_has HasZoneForms s.zones r.name r.zone
    (All-weaker IsZoneNamed (λ z. HasZoneForms z.zone) (λ z has. has.forms) s.zones is.storable.zones) r.is_there)
    dated r.installs
    (named_has (λ z. IsClosedZone s.global (counting s.global z []) z) s.zones r.name r.zone is.closed r.is_there))))

command_closed : (date : Text) (files : Files) (s : State) (c : Command) (t : State) (outcome : Outcome)
    → IsDottedDate date → RunsThere date files s c t outcome → IsClosedState s → HasClosedZones t
command_closed date files s (Set name) t outcome dated runs is = subst HasClosedZones (sym runs.0) is.closed
command_closed date files s (Receive what) t outcome dated runs is = taken_closed files s what t outcome runs is.closed
command_closed date files s (Reject ids) t outcome dated runs is = rejects_closed s ids t outcome runs is
command_closed date files s (Apply i) t outcome dated runs is =
    installs_closed date s (Apply i) i (λ name. None) t outcome dated runs is
command_closed date files s (Accept i) t outcome dated runs is =
    installs_closed date s (Accept i) i (target_of s.zones) t outcome dated runs is
command_closed date files s (Restore what check) t outcome dated runs is =
    restores_closed s what check t outcome runs is
command_closed date files s (ListZone text) t outcome dated runs is = subst HasClosedZones (sym runs.0) is.closed
command_closed date files s Report t outcome dated runs is = subst HasClosedZones (sym runs.0) is.closed

defining_closed : (s t : State) (d : ZoneDefinition) → HasClosedZones s → t ≡ state_after s (define_zone s d)
    → HasClosedZones t
defining_closed s t d closed at = subst HasClosedZones (sym at) (by (define_zone s d) refl)
  where
    by : (r : Result State ZoneFault) → define_zone s d ≡ r → HasClosedZones (state_after s r)
    by (Ok u) answers = defined_closed s u d answers closed
    by (Err why) answers = closed

zones_closed : (s : State) (a : Act) (t : State) (outcomes : List Outcome) → HasActForms a → Steps s a t outcomes
    → IsClosedState s → HasClosedZones t
zones_closed s Begin t outcomes form steps is = subst HasClosedZones (sym steps.0) is.closed
zones_closed s (Perform date files c) t outcomes form (outcome, inl refused, printed) is =
    subst HasClosedZones (sym refused.2) is.closed
zones_closed s (Perform date files c) t outcomes form (outcome, inr runs, printed) is =
    command_closed date files s c t outcome form.0 runs.1 is
zones_closed s (Faulty fault) t outcomes form steps is = subst HasClosedZones (sym steps.0) is.closed
zones_closed s (Define d) t outcomes form steps is = defining_closed s t d is.closed steps.0

-- Each act keeps it.
pub step_keeps : (s : State) (a : Act) (t : State) (outcomes : List Outcome) → HasActForms a → Steps s a t outcomes
    → IsClosedState s → IsClosedState t
step_keeps s a t outcomes form steps is = record {
  storable = step_storable s t a outcomes is.storable form steps;
  closed = zones_closed s a t outcomes form steps is;
}
