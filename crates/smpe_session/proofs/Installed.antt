-- What APPLY and ACCEPT lead to: a state with one zone changed, whose tables are an inventory's.
use Rattle.std.proofs.Common.{◌≡◌, ◌≢◌, ◌∙◌, Bool, true, false, List, [], ◌∷◌, ◌++◌, Option, Some, IsTrue}
use Rattle.std.proofs.Common.{refl, sym, ap, subst, inl, inr, true≢false}
use Rattle.std.specs.Prelude.{find, option_map, if◌then◌else◌}
use Rattle.std.specs.List.{AllByRecursion}
use Rattle.std.specs.Str.{bytes_eq}
use Rattle.std.specs.Ordering.{nat_cmp, is_lt}
use Rattle.std.specs.Cmp.Lexicographic.{slice_cmp}
use Rattle.std.proofs.lemmas.Cmp.{nat_list_cmp_total, tied_itself}
use Rattle.std.proofs.lemmas.List.Elements.{All-append, All-weaker, recursion_from_All}
use Rattle.indexmap.specs.IndexMap.{Updates}
use Rattle.terms.specs.declared.kinds.ZoneKind.{ZoneKind}
use Rattle.terms.specs.declared.kinds.ZoneKind.TheVariants.{Target, Distribution}
use Rattle.terms.specs.Types.{Text, Zone, NamedZone, Bypass, Selection, Install, Command}
use Rattle.zones_maps.specs.Delta.{ZoneDelta, IsChanged, KnowsStood}
use Rattle.terms.specs.Forms.{IsDottedDate}
use Rattle.terms.specs.Lookups.{is_before}
use Rattle.terms.specs.Rising.{Rises, with_item}
use Rattle.terms.proofs.Pairs.{pairs_unmap, AllPairs_parts}
use Rattle.terms.proofs.TextOrder.{same_from, same_itself}
use Rattle.terms.proofs.RisingLists.{with_item_there}
use Rattle.store_zones.specs.Zones.{IsZoneChange}
use Rattle.store_schema.specs.Inventory.{Inventory, IsInventory}
use Rattle.machine.specs.Installing.{InstallsSelected}
use Rattle.machine.specs.Outcome.{Header, Line, Refusal, Outcome, Ran, Refused, header_of, or_nothing}
use Rattle.machine.specs.State.{State, zone_named, with_zone, misplaced}
use Rattle.machine.specs.Machine.{Files, InstallsThere, RunsThere, Performs}
use Rattle.store.specs.declared.change.Change.{Change}
use Rattle.store.specs.Kept.{kept}
use Rattle.store.specs.Own.{IsOfZone, IsOwnOf}
use Rattle.machine_laws.proofs.ZonesKept.{stands_among}
use Rattle.machine_laws.proofs.InstallForms.{apply_kept}
use Rattle.smpe_session.specs.declared.session.Session.{Session}
use Rattle.smpe_session.specs.Sessions.{IsSessionOf}
use Rattle.smpe_session.specs.Places.{install_command, related_for, IsPlace, ChangesZone}
use Rattle.smpe_session.specs.Writing.{boundary_after}
use Rattle.smpe_session.proofs.Places.{install_at}
use Rattle.smpe_session.proofs.Seeking.{zones_updated, some_updated}

abbrev named : Text → Zone → NamedZone
named name zone = record { name = name; zone = zone }

abbrev replaced : List NamedZone → Text → Zone → List NamedZone
replaced zones name zone = with_item (slice_cmp nat_cmp) (λ (z : NamedZone). z.name) zones (named name zone)

not_below : (a name : Text) → IsTrue (is_lt (slice_cmp nat_cmp a name)) → a ≢ name
not_below a name below same = true≢false (sym below ∙ ap (λ x. is_lt (slice_cmp nat_cmp x name)) same
    ∙ ap is_lt (tied_itself nat_list_cmp_total name))

not_above : (a name : Text) → IsTrue (is_lt (slice_cmp nat_cmp name a)) → a ≢ name
not_above a name above same = true≢false (sym above ∙ ap (λ x. is_lt (slice_cmp nat_cmp name x)) same
    ∙ ap is_lt (tied_itself nat_list_cmp_total name))

-- one zone becomes another, and keeps its name
pub zone_change : (i : Inventory) (name : Text) (old new : Zone) → IsInventory i → zone_named i.zones name ≡ Some old
    → IsZoneChange name old new i (record i { zones = replaced i.zones name new })
zone_change i name old new is found =
    let at = stands_among i.zones name old found in
    let was = named name old in
    let now = named name new in
    let rising = subst (λ zs. Rises (slice_cmp nat_cmp) (λ (z : NamedZone). z.name) zs) at.zones_are
    (pairs_unmap (λ (a b : NamedZone). IsTrue (is_before a.name b.name)) (λ (x y : Text). IsTrue (is_before x y))
    (λ z. z.name) (λ a b lower. lower) i.zones is.names) in
    let put : replaced i.zones name new ≡ at.before ++ now ∷ at.after =
    ap (λ zs. with_item (slice_cmp nat_cmp) (λ (z : NamedZone). z.name) zs now) at.zones_are
    ∙ with_item_there nat_list_cmp_total (λ (z : NamedZone). z.name) at.before at.after now was rising
    (tied_itself nat_list_cmp_total name) in
    let parts = AllPairs_parts (λ (a b : NamedZone). IsTrue (is_lt (slice_cmp nat_cmp a.name b.name))) at.before
    at.after was rising in
    record {
      before = at.before;
      after = at.after;
      was = at.zones_are;
      is = ap (λ zs. record i { zones = zs }) put;
      others = recursion_from_All (λ (z : NamedZone). z.name ≢ name) (at.before ++ at.after)
          (All-append (λ (z : NamedZone). z.name ≢ name) at.before at.after
          (All-weaker (λ (z : NamedZone). IsTrue (is_lt (slice_cmp nat_cmp z.name name)))
          (λ (z : NamedZone). z.name ≢ name) (λ z. not_below z.name name) at.before parts.0)
          (All-weaker (λ (z : NamedZone). IsTrue (is_lt (slice_cmp nat_cmp name z.name)))
          (λ (z : NamedZone). z.name ≢ name) (λ z. not_above z.name name) at.after parts.1));
    }

abbrev step : Bool → NamedZone → List NamedZone → Text → Option Zone
step b z zs q = option_map (λ y. y.zone) (if b then Some z else find (λ y. bytes_eq y.name q) zs)

-- the zone of the name is the new one
found_new : (name : Text) (new : Zone) (front back : List NamedZone)
    → AllByRecursion (λ z. z.name ≢ name) (front ++ back) → zone_named (front ++ named name new ∷ back) name ≡ Some new
found_new name new [] back others = ap (λ b. step b (named name new) back name) (same_itself name)
found_new name new (z ∷ zs) back others = by (bytes_eq z.name name) refl (found_new name new zs back others.1)
  where
    by : (b : Bool) → bytes_eq z.name name ≡ b → zone_named (zs ++ named name new ∷ back) name ≡ Some new
        → zone_named (z ∷ zs ++ named name new ∷ back) name ≡ Some new
    by true same later = absurd (others.0 (same_from z.name name same))
    by false other later = ap (λ b. step b z (zs ++ named name new ∷ back) name) other ∙ later

-- and those of other names are as they were
found_other : (name q : Text) (old new : Zone) → bytes_eq name q ≡ false → (front back : List NamedZone)
    → zone_named (front ++ named name old ∷ back) q ≡ zone_named (front ++ named name new ∷ back) q
found_other name q old new other [] back = ap (λ b. step b (named name old) back q) other
    ∙ sym (ap (λ b. step b (named name new) back q) other)
found_other name q old new other (z ∷ zs) back = by (bytes_eq z.name q) refl (found_other name q old new other zs back)
  where
    by : (b : Bool) → bytes_eq z.name q ≡ b → zone_named (zs ++ named name old ∷ back) q ≡ zone_named
        (zs ++ named name new ∷ back) q
        → zone_named (z ∷ zs ++ named name old ∷ back) q ≡ zone_named (z ∷ zs ++ named name new ∷ back) q
    by true same later = ap (λ b. step b z (zs ++ named name old ∷ back) q) same
        ∙ sym (ap (λ b. step b z (zs ++ named name new ∷ back) q) same)
    by false differs later = ap (λ b. step b z (zs ++ named name old ∷ back) q) differs ∙ later
        ∙ sym (ap (λ b. step b z (zs ++ named name new ∷ back) q) differs)

module _ (s : State) (name : Text) (old new : Zone) (is : IsInventory (kept s))
    (found : zone_named s.zones name ≡ Some old) where
  zones_are : replaced s.zones name new ≡ (zone_change (kept s) name old new is found).before
      ++ named name new ∷ (zone_change (kept s) name old new is found).after
  zones_are = ap (λ i. i.zones) (zone_change (kept s) name old new is found).is

  named_new : zone_named (replaced s.zones name new) name ≡ Some new
  named_new = let change = zone_change (kept s) name old new is found
      in ap (λ zs. zone_named zs name) zones_are ∙ found_new name new change.before change.after change.others

  named_other : (q : Text) → bytes_eq name q ≡ false → zone_named s.zones q ≡ zone_named (replaced s.zones name new) q
  named_other q other =
      let change = zone_change (kept s) name old new is found in
      ap (λ zs. zone_named zs q) change.was ∙ found_other name q old new other change.before change.after
      ∙ sym (ap (λ zs. zone_named zs q) zones_are)

  -- the session of the changed state
  pub install_session : (at session : Session) → IsSessionOf s at → session.global ≡ at.global
      → session.boundary ≡ at.boundary → Updates bytes_eq at.zones session.zones name (Some new)
      → IsSessionOf (with_zone s name new) session
  install_session at session here global boundary updates = record {
    global = global ∙ here.global;
    boundary = boundary ∙ here.boundary;
    zones = zones_updated (with_zone s name new) at session name new
        (λ q z other held. sym (named_other q other) ∙ here.zones q z held) updates named_new;
    current = λ q bound. elim (here.current q bound) [
      | inl same ↦ inl same
      | inr some ↦ inr (some_updated at session name q new updates some)
    ];
  }

-- the command where it can run
runs_there : (date : Text) (files : Files) (kind : ZoneKind) (i : Install) (s t : State) (outcome : Outcome)
    → InstallsThere date s (install_command kind i) i (related_for kind s.zones) t outcome
    → RunsThere date files s (install_command kind i) t outcome
runs_there date files Target i s t outcome there = there
runs_there date files Distribution i s t outcome there = there

-- what was planned, as the command's own words
pub install_changes : (date : Text) (kind : ZoneKind) (i : Install) (s : State) (at : Session) (name : Text)
    (zone : Zone) (related : Option Zone) (sel : Selection) (bypass : Bypass) (delta : ZoneDelta)
    (printed lines : List Line) → KnowsStood zone delta
    → IsSessionOf s at → IsPlace s at kind name zone → related ≡ related_for kind s.zones name
    → i.selection ≡ sel → i.bypass ≡ bypass → IsDottedDate date
    → ((new : Zone) → IsChanged delta zone new → InstallsSelected at.global zone related sel bypass date new printed)
    → lines ≡ or_nothing printed
    → (files : Files) (check : Bool) (header : Header) → i.check ≡ check
    → header ≡ header_of (install_command kind i) s.boundary
    → ChangesZone date files (install_command kind i) s at name delta check (Ran header lines)
install_changes date kind i s at name zone related sel bypass delta printed lines knows here place looks chosen
    bypasses dated plan all files check header checks headed = record {
      zone = zone;
      has = place.has;
      is_there = place.is_there;
      boundary = place.boundary;
      knows = knows;
      owns = λ unchecked. owns kind (checks ∙ unchecked);
      performs = λ new changed. inr (
        install_at s kind i ∙ place.fits,
        runs_there date files kind i s (if check then s else with_zone s name new) (Ran header lines) record {
          name = name;
          at = place.boundary;
          zone = zone;
          is_there = place.is_there;
          new = new;
          lines = printed;
          installs = installs new changed;
          state = ap (λ c. if c then s else with_zone s name new) (sym checks);
          prints = ap (Ran header) all ∙ ap (λ h. Ran h (or_nothing printed)) headed;
        },
      );
      inventory = λ new changed inventory. apply_kept (kept s) name zone new (related_for kind s.zones name) i.selection
          i.bypass date printed inventory place.is_there (installs new changed) dated;
    }
  where
    owns : (kind : ZoneKind) → i.check ≡ false → (change : Change) → IsOfZone change
        → IsOwnOf (install_command kind i) change
    owns Target unchecked change is = (is, unchecked)
    owns Distribution unchecked change is = (is, unchecked)

    installs : (new : Zone) → IsChanged delta zone new
        → InstallsSelected s.global zone (related_for kind s.zones name) i.selection i.bypass date new printed
    installs new changed =
        subst (λ r. InstallsSelected s.global zone r i.selection i.bypass date new printed) looks
        (subst (λ g. InstallsSelected g zone related i.selection i.bypass date new printed) here.global
        (subst (λ x. InstallsSelected at.global zone related x i.bypass date new printed) (sym chosen)
        (subst (λ b. InstallsSelected at.global zone related sel b date new printed) (sym bypasses)
        (plan new changed))))

-- the command where it can't run
pub install_refused : (date : Text) (files : Files) (c : Command) (s : State) (header : Header) (why : Refusal)
    → header ≡ header_of c s.boundary → misplaced s c ≡ Some why → Performs date files s c s (Refused header why)
install_refused date files c s header why headed at = inl (why, at, refl, ap (λ h. Refused h why) headed)

-- an install moves no boundary
pub installs_stay : (kind : ZoneKind) (i : Install) (outcome : Outcome) (boundary : Option Text)
    → boundary_after (install_command kind i) outcome boundary ≡ boundary
installs_stay Target i outcome boundary = refl
installs_stay Distribution i outcome boundary = refl
