-- Where RESTORE runs, and what it leads to.
use Rattle.std.proofs.Common.{◌≡◌, ◌∙◌, Bool, List, Option, Some, None, refl, sym, ap, subst, inl, inr}
use Rattle.std.specs.Prelude.{IsSome, is_some, if◌then◌else◌}
use Rattle.std.specs.Option.{option_and_then}
use Rattle.std.specs.Str.{bytes_eq}
use Rattle.indexmap.specs.IndexMap.{get}
use Rattle.terms.specs.declared.kinds.ZoneKind.{ZoneKind}
use Rattle.terms.specs.declared.kinds.ZoneKind.TheVariants.{Target}
use Rattle.terms.specs.Types.{Text, Zone, RestoreList, Restore}
use Rattle.zones_maps.specs.Delta.{ZoneDelta, IsChanged, KnowsStood}
use Rattle.store_schema.specs.Inventory.{IsInventory, IsRelated}
use Rattle.machine.specs.Outcome.{Line, Ran, header_of}
use Rattle.machine.specs.Restoring.{RestoresListed}
use Rattle.machine.specs.State.{State, zone_named, with_zone}
use Rattle.machine.specs.Machine.{Files}
use Rattle.store.specs.Kept.{kept}
use Rattle.machine_laws.proofs.RestoreForms.{restore_kept}
use Rattle.smpe_session.specs.declared.session.Session.{Session}
use Rattle.smpe_session.specs.Sessions.{IsSessionOf}
use Rattle.smpe_session.specs.KnownZones.{IsSought}
use Rattle.smpe_session.specs.Places.{IsPlace, ChangesZone}
use Rattle.smpe_session.specs.Restored.{HasAccepted}
use Rattle.smpe_session.proofs.Leading.{headed}
use Rattle.smpe_session.proofs.Places.{none_global, restore_at}
use Rattle.smpe_session.proofs.StateZones.{each_named, its_own, sought_held}

abbrev related_in : Option Zone → Option Text
related_in zone = option_and_then (λ (z : Zone). z.related) zone

-- the name that the session's zone of the boundary has
abbrev IsName : Session → Option Text → Type 0
IsName at accepted = accepted ≡ related_in (option_and_then (get bytes_eq at.zones) at.boundary)

module _ (s : State) (inventory : IsInventory (kept s)) where
  -- it is that of the state's zone
  name_is : (at : Session) (accepted : Option Text) → IsSessionOf s at → IsName at accepted
      → (name : Text) (zone : Zone) → s.boundary ≡ Some name → zone_named s.zones name ≡ Some zone
      → accepted ≡ zone.related
  name_is at accepted is named name zone bound there =
      named ∙ ap (λ b. related_in (option_and_then (get bytes_eq at.zones) b)) (is.boundary ∙ bound)
      ∙ by (get bytes_eq at.zones name) refl
    where
      by : (o : Option Zone) → get bytes_eq at.zones name ≡ o → related_in (get bytes_eq at.zones name) ≡ zone.related
      by None e = elim (is.current name bound) [
        | inl same ↦ absurd (cc (sym there ∙ ap (zone_named s.zones) same ∙ none_global s.zones inventory.zones))
        | inr some ↦ absurd (cc (sym (ap is_some e) ∙ some))
      ]
      by (Some z) e =
          let same : Some z ≡ Some zone = sym (is.zones name z e) ∙ there in
          ap related_in e ∙ ap (λ o. related_in o) same

  -- The zone of the boundary is related to none, or is none.
  pub accepted_none : (at : Session) → IsSessionOf s at → IsName at None → HasAccepted s at None
  accepted_none at is named = record {
    session = is;
    is_related = λ name zone bound there. ap (option_and_then (zone_named s.zones))
        (name_is at None is named name zone bound there);
  }

  -- It is related to one, which was sought.
  pub accepted_some : (old at : Session) (accepted : Text) (answer : Bool) → IsSessionOf s old
      → IsName old (Some accepted) → IsSought s at accepted answer → HasAccepted s at (Some accepted)
  accepted_some old at accepted answer is named sought = record {
    session = sought.session;
    is_related = λ name zone bound there. by (zone_named s.zones accepted) refl
        ∙ ap (option_and_then (zone_named s.zones)) (name_is old (Some accepted) is named name zone bound there);
  }
    where
      none : (o : Option Zone) → get bytes_eq at.zones accepted ≡ o → zone_named s.zones accepted ≡ None → o ≡ None
      none None e e_none = refl
      none (Some z) e e_none = absurd (cc (sym (sought.session.zones accepted z e) ∙ e_none))

      by : (o : Option Zone) → zone_named s.zones accepted ≡ o
          → get bytes_eq at.zones accepted ≡ zone_named s.zones accepted
      by None e = none (get bytes_eq at.zones accepted) refl e ∙ sym e
      by (Some z) e = sought_held s inventory at accepted answer sought z e ∙ sym e

  abbrev Related : ZoneKind → Text → Option Text → Type 0
  Related kind srel name = IsRelated s.zones kind srel name

  -- Each target zone has a distribution zone.
  related_there : (srel : Text) (name : Option Text) → IsRelated s.zones Target srel name
      → IsSome (option_and_then (zone_named s.zones) name)
  related_there srel None is = absurd is
  related_there srel (Some name) (z, there, named, kind, same) =
      ap is_some (ap (zone_named s.zones) (sym named) ∙ its_own s inventory z there)

  is_related : (name : Text) (zone : Zone) → zone_named s.zones name ≡ Some zone
      → Related zone.kind zone.srel zone.related
  is_related name zone there = each_named (λ (z : Zone). Related z.kind z.srel z.related) s.zones inventory.related
      name zone there

  module _ (at : Session) (accepted : Option Text) (has : HasAccepted s at accepted) (name : Text) (zone : Zone)
      (place : IsPlace s at Target name zone) where
    pub beside : option_and_then (get bytes_eq at.zones) accepted ≡ option_and_then (zone_named s.zones) zone.related
    beside = has.is_related name zone place.boundary place.is_there

    pub not_none : option_and_then (get bytes_eq at.zones) accepted ≡ None → ⊥
    not_none none =
        let some = related_there zone.srel zone.related (subst (λ k. Related k zone.srel zone.related) place.kind_is
        (is_related name zone place.is_there)) in
        absurd (cc (sym (ap is_some (sym beside ∙ none)) ∙ some))

-- what was planned, as the command's own words
pub restore_changes : (s : State) (at : Session) (name : Text) (zone accepted : Zone) (what : RestoreList)
    (delta : ZoneDelta) (lines : List Line) → KnowsStood zone delta → IsSessionOf s at
    → IsPlace s at Target name zone → option_and_then (zone_named s.zones) zone.related ≡ Some accepted
    → ((new : Zone) → IsChanged delta zone new → RestoresListed at.global zone accepted what new lines)
    → (date : Text) (files : Files) (check : Bool) (boundary : Option Text) → boundary ≡ s.boundary
    → ChangesZone date files (Restore what check) s at name delta check
    (Ran (header_of (Restore what check) boundary) lines)
restore_changes s at name zone accepted what delta lines knows is place related plan date files check boundary
    same = record {
      zone = zone;
      has = place.has;
      is_there = place.is_there;
      boundary = place.boundary;
      knows = knows;
      owns = λ unchecked change is. (is, unchecked);
      performs = λ new changed. headed date files (Restore what check) s (if check then s else with_zone s name new)
          boundary (λ h. Ran h lines) same (inr (
            restore_at s what check ∙ place.fits,
            record {
              name = name;
              at = place.boundary;
              zone = zone;
              is_there = place.is_there;
              accepted = accepted;
              related = related;
              new = new;
              lines = lines;
              restores = restores new changed;
              state = refl;
              prints = refl;
            },
          ));
      inventory = λ new changed inventory. restore_kept (kept s) name zone accepted new what lines inventory
          place.is_there related (restores new changed);
    }
  where
    restores : (new : Zone) → IsChanged delta zone new → RestoresListed s.global zone accepted what new lines
    restores new changed =
        subst (λ g. RestoresListed g zone accepted what new lines) is.global (plan new changed)
