-- APPLY and ACCEPT run at each zone of theirs in a state that can be stored: that they do not can be refuted.
use Rattle.std.proofs.Common.{◌≡◌, Bool, true, false, List, Option, None, Some, All, Contains, refl, sym, subst}
use Rattle.std.proofs.Common.{true≢false, is_some}
use Rattle.std.specs.Prelude.{◌+◌, ◌==◌, if◌then◌else◌}
use Rattle.std.specs.Option.{option_map_or, option_and_then}
use Rattle.std.proofs.lemmas.Bool.{and_parts}
use Rattle.terms.specs.declared.kinds.ZoneKind.{ZoneKind}
use Rattle.terms.specs.Types.{Text, Id, Global, Zone, Bypass, Selection, Install, Command, zone_number}
use Rattle.terms.specs.Lookups.{IsZone, is_applied}
use Rattle.terms.specs.Choice.{place, counting}
use Rattle.terms.specs.Global.{IsGlobal}
use Rattle.terms.specs.Tests.{Setting}
use Rattle.terms.specs.Judged.{setting, IsKeptSet}
use Rattle.terms.specs.Install.{Installation, HasInstalled}
use Rattle.store_schema.specs.Forms.{HasSysmodForms, HasZoneForms}
use Rattle.store_schema.specs.Inventory.{IsZoneNamed}
use Rattle.machine.specs.Outcome.{Line, Outcome, Ran, header_of, or_nothing}
use Rattle.machine.specs.Installing.{Decision, IsDecision, InstallsSelected}
use Rattle.machine.specs.State.{State, zone_named, with_zone, unless_at, at_kind}
use Rattle.machine.specs.Machine.{InstallsThere}
use Rattle.change.proofs.ChosenVers.{counting_for}
use Rattle.change.proofs.KeptTogether.{unsupplied, InstallsKept, install_over, changed_base}
use Rattle.machine_laws.proofs.Decisions.{candidate_open}
use Rattle.machine_laws.specs.Storable.{IsStorable}
use Rattle.machine_laws.proofs.DecisionLines.{decided_lines}
use Rattle.machine_laws.proofs.Effective.{IsSoundInstall}
use Rattle.machine_laws.proofs.RestoreRuns.{of_named, fits_from}
use Rattle.machine_laws.proofs.ZoneAnswered.{zone_answered}
use Rattle.machine_laws.proofs.Installable.{not_supplied}

module _ (g : Global) (is_global : IsGlobal g) (sysmods : All HasSysmodForms g.sysmods) (zone : Zone)
    (is_zone : IsZone zone) (forms : HasZoneForms zone) (related : Option Zone) (sel : Selection) (bypass : Bypass)
    (date : Text) where
  -- What is decided is a sound install.
  decision_sound : (d : Decision) → IsDecision g zone related sel bypass date d → IsSoundInstall d.installing
  decision_sound d decides = subst IsSoundInstall (sym decides.installing) (record {
    global = is_global;
    sysmods = sysmods;
    vers = counting_for g zone decides.cands;
    is_zone = is_zone;
    forms = forms;
    order = install_over s is_kept.survivors d.kept is_kept.members is_zone is_global refl not_applied i of;
    bases = changed_base s is_kept.survivors d.kept is_kept.members is_zone is_global refl not_applied i of;
  })
    where
      s : Setting
      s = setting g zone related decides.cands bypass

      i : Installation
      i = record {
        global = g;
        choice = counting g zone decides.cands;
        number = λ x. place g zone decides.cands x + 1;
        zone = zone;
        kept = d.kept;
        bypassed = decides.bypassed;
        date = date;
      }

      of : InstallsKept s d.kept i
      of = record { global = refl; choice = refl; zone = refl; kept = refl }

      is_kept : IsKeptSet s d.kept
      is_kept = subst (λ s. IsKeptSet s d.kept) decides.setting decides.kept

      not_applied : (x : Id) → Contains s.cands x → is_applied s.zone x ≡ false
      not_applied x cand =
          unsupplied zone x (not_supplied g zone x
          (and_parts _ _ (candidate_open g zone sel x ((decides.candidates.members x).0 cand))).0)

  -- So each decision leads to a zone.
  pub decision_installed : (d : Decision) → IsDecision g zone related sel bypass date d
      → (new : Zone) × HasInstalled d.installing new
  decision_installed d decides = zone_answered d.installing (decision_sound d decides)

  pub installs_answered : ¬ ¬ ((new : Zone) × (lines : List Line)
      × InstallsSelected g zone related sel bypass date new lines)
  installs_answered refuted = decided_lines g zone related sel bypass date (λ found.
      let made = decision_installed found.0 found.1 in
      refuted (
        made.0,
        found.2.0,
        record { decision = found.0; decides = found.1; lines_are = found.2.1; installs = made.1 },
      ))

module _ (date : Text) (s : State) (c : Command) (i : Install) (related : Text → Option Zone) (is : IsStorable s) where
  abbrev Installed : Type 0
  Installed = (t : State) × (outcome : Outcome) × InstallsThere date s c i related t outcome

  at_zone : (name : Text) → s.boundary ≡ Some name → (zone : Zone) → zone_named s.zones name ≡ Some zone
      → ¬ ¬ Installed
  at_zone name at zone there refuted =
      let named = of_named IsZoneNamed s.zones name zone is.zones there in
      installs_answered s.global is.global is.sysmods zone (subst IsZone named.2 named.1.zone)
      (subst HasZoneForms named.2 named.1.forms) (related name) i.selection i.bypass date (λ made. refuted (
        if i.check then s else with_zone s name made.0,
        Ran (header_of c s.boundary) (or_nothing made.1),
        record {
          name = name;
          at = at;
          zone = zone;
          is_there = there;
          new = made.0;
          lines = made.1;
          installs = made.2;
          state = refl;
          prints = refl;
        },
      ))

  -- It runs wherever the boundary is a zone of its kind.
  pub install_runs : (kind : ZoneKind) → unless_at (at_kind kind s) s ≡ None → ¬ ¬ Installed
  install_runs kind none = at_boundary s.boundary refl (fits_from (is_some s.boundary) (at_kind kind s) none)
    where
      fits : Option Zone → Bool
      fits o = option_map_or (λ z. zone_number z.kind == zone_number kind) o false

      at_boundary : (o : Option Text) → s.boundary ≡ o → fits (option_and_then (zone_named s.zones) o) ≡ true
          → ¬ ¬ Installed
      at_boundary None at here = absurd (true≢false (sym here))
      at_boundary (Some name) at here = by (zone_named s.zones name) refl here
        where
          by : (o : Option Zone) → zone_named s.zones name ≡ o → fits o ≡ true → ¬ ¬ Installed
          by None there here = absurd (true≢false (sym here))
          by (Some zone) there here = at_zone name at zone there
