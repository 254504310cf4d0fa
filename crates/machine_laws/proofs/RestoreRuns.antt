-- RESTORE runs at each target zone of a state that can be stored: that it does not can be refuted.
use Rattle.std.proofs.Common.{◌≡◌, ◌∙◌, Bool, true, false, not, List, [], ◌∷◌, Option, None, Some, All, Contains}
use Rattle.std.proofs.Common.{IsTrue}
use Rattle.std.proofs.Common.{inl, inr, find, refl, sym, ap, subst, true≢false, is_some, bytes_eq}
use Rattle.std.specs.Prelude.{◌==◌, option_map, if◌then◌else◌}
use Rattle.std.specs.Option.{option_map_or, option_and_then}
use Rattle.terms.proofs.ListMembers.{here_or, none_in}
use Rattle.terms.proofs.Searches.{All_find}
use Rattle.terms.proofs.TextOrder.{same_itself}
use Rattle.terms.specs.declared.kinds.ZoneKind.{ZoneKind}
use Rattle.terms.specs.declared.kinds.ZoneKind.TheVariants.{Target, Distribution}
use Rattle.terms.specs.Types.{Text, Zone, NamedZone, RestoreList, Restore, zone_number}
use Rattle.terms.specs.Lookups.{IsZone}
use Rattle.store_schema.specs.Inventory.{IsZoneNamed, IsRelated}
use Rattle.machine.specs.Outcome.{NoBoundary, WrongKind, Outcome, Ran, header_of}
use Rattle.machine.specs.State.{State, zone_named, current_zone, with_zone, misplaced}
use Rattle.machine.specs.Machine.{RestoresThere}
use Rattle.machine_laws.specs.Storable.{IsStorable}
use Rattle.machine_laws.proofs.RestoreAnswered.{restore_answered}

-- a zone of this name is found
found_zone : (zones : List NamedZone) (name : Text) (z : NamedZone) → Contains zones z → z.name ≡ name
    → (zone : Zone) × (zone_named zones name ≡ Some zone)
found_zone [] name z there same = absurd (none_in z there)
found_zone (y ∷ ys) name z there same =
    by (λ later. found_zone ys name z later same) (bytes_eq y.name name) refl
  where
    one : Bool → Option Zone
    one b = option_map (λ v. v.zone) (if b then Some y else find (λ v. bytes_eq v.name name) ys)

    by : (Contains ys z → (zone : Zone) × (zone_named ys name ≡ Some zone)) → (b : Bool) → bytes_eq y.name name ≡ b
        → (zone : Zone) × (one (bytes_eq y.name name) ≡ Some zone)
    by rest true at = (y.zone, ap one at)
    by rest false at = elim (here_or y ys z there) [
      | inl is ↦ absurd (true≢false (sym (same_itself name)
          ∙ ap (λ n. bytes_eq n name) (sym (ap (λ (v : NamedZone). v.name) is ∙ same)) ∙ at))
      | inr later ↦ let found = rest later in (found.0, ap one at ∙ found.1)
    ]

-- A target zone names a zone that is there.
accepted_of : (zones : List NamedZone) (zone : Zone) → (kind : ZoneKind) → zone.kind ≡ kind
    → IsTrue (zone_number kind == zone_number Target) → (related : Option Text) → zone.related ≡ related
    → IsRelated zones kind zone.srel related
    → (accepted : Zone) × (option_and_then (zone_named zones) related ≡ Some accepted)
accepted_of zones zone Target at target None names is = absurd is
accepted_of zones zone Target at target (Some name) names is = found_zone zones name is.0 is.1 is.2
accepted_of zones zone Distribution at target related names is = absurd (true≢false (sym target))

-- a fact of all zones holds of one that is found
pub of_named : (P : NamedZone → Type 0) (zones : List NamedZone) (name : Text) (zone : Zone) → All P zones
    → zone_named zones name ≡ Some zone → (z : NamedZone) × P z × (z.zone ≡ zone)
of_named P zones name zone all found = by (find (λ z. bytes_eq z.name name) zones) refl
  where
    by : (o : Option NamedZone) → find (λ z. bytes_eq z.name name) zones ≡ o → (z : NamedZone) × P z × (z.zone ≡ zone)
    by None at = absurd (cc (sym found ∙ ap (option_map (λ z. z.zone)) at))
    by (Some z) at =
        let same : Some z.zone ≡ Some zone = sym (ap (option_map (λ z. z.zone)) at) ∙ found in
        (z, All_find P (λ z. bytes_eq z.name name) zones z all at, cc same)

-- where a command is not misplaced, it fits
pub fits_from : (b fits : Bool) → (if not b then Some NoBoundary else if fits then None
    else Some WrongKind) ≡ None → fits ≡ true
fits_from b true none = refl
fits_from true false none = absurd (cc none)
fits_from false false none = absurd (cc none)

module _ (s : State) (what : RestoreList) (check : Bool) (is : IsStorable s) where
  abbrev Restored : Type 0
  Restored = (t : State) × (outcome : Outcome) × RestoresThere s what check t outcome

  at_target : (name : Text) → s.boundary ≡ Some name → (zone : Zone) → zone_named s.zones name ≡ Some zone
      → IsTrue (zone_number zone.kind == zone_number Target) → ¬ ¬ Restored
  at_target name at zone there target refuted =
      let named = of_named IsZoneNamed s.zones name zone is.zones there in
      let relates = of_named (λ z. IsRelated s.zones z.zone.kind z.zone.srel z.zone.related) s.zones name zone
      is.related there in
      let related = accepted_of s.zones zone zone.kind refl target zone.related refl
      (subst (λ (z : Zone). IsRelated s.zones z.kind z.srel z.related) relates.2 relates.1) in
      restore_answered s.global zone related.0 what (subst IsZone named.2 named.1.zone) (λ made. refuted (
        if check then s else with_zone s name made.0,
        Ran (header_of (Restore what check) s.boundary) made.1,
        record {
          name = name;
          at = at;
          zone = zone;
          is_there = there;
          accepted = related.0;
          related = related.1;
          new = made.0;
          lines = made.1;
          restores = made.2;
          state = refl;
          prints = refl;
        },
      ))

  abbrev fits : Option Zone → Bool
  fits o = option_map_or (λ z. zone_number z.kind == zone_number Target) o false

  at_named : (o : Option Text) → s.boundary ≡ o → IsTrue (fits (option_and_then (zone_named s.zones) o)) → ¬ ¬ Restored
  at_named None at here = absurd (true≢false (sym here))
  at_named (Some name) at here = by (zone_named s.zones name) refl
    where
      by : (o : Option Zone) → zone_named s.zones name ≡ o → ¬ ¬ Restored
      by None there = absurd (true≢false (sym here ∙ ap fits there))
      by (Some zone) there = at_target name at zone there (sym (ap fits there) ∙ here)

  pub restore_runs : misplaced s (Restore what check) ≡ None → ¬ ¬ Restored
  unfolding misplaced
  restore_runs none = at_named s.boundary refl (fits_from (is_some s.boundary) (fits (current_zone s)) none)
