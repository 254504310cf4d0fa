-- Commands and definitions of zones leave all zones of their streams, lacking no fix.
use Rattle.std.proofs.Common.{◌≡◌, ◌∙◌, inl, inr, Bool, true, false, List, [], ◌∷◌, Option, None, Some, All, Contains}
use Rattle.std.proofs.Common.{◌≤◌, IsTrue, map, length, get_or, refl, sym, ap, subst, arith, true≢false}
use Rattle.std.specs.Prelude.{Result, Ok, Err, option_map, if◌then◌else◌}
use Rattle.std.specs.Option.{option_and_then}
use Rattle.std.specs.Str.{bytes_eq}
use Rattle.std.specs.Ordering.{nat_cmp}
use Rattle.std.specs.Cmp.Lexicographic.{slice_cmp, texts_ties}
use Rattle.std.proofs.lemmas.Cmp.{nat_list_cmp_total}
use Rattle.std.proofs.lemmas.Option.{same_Some}
use Rattle.std.proofs.lemmas.List.Elements.{All-contains, All-contains_itself}
use Rattle.terms.specs.declared.kinds.ZoneKind.{ZoneKind}
use Rattle.terms.specs.declared.kinds.ZoneKind.TheVariants.{Target, Distribution}
use Rattle.terms.specs.Types.{Text, Id, Global, Zone, a_zone, NamedZone, Selection, Bypass, ReceiveOperands, Install}
use Rattle.terms.specs.Types.{RestoreList}
use Rattle.terms.specs.Lookups.{IsZone, is_before, IsRising}
use Rattle.terms.specs.Types.{Command, Set, Receive, Reject, Apply, Accept, Restore, ListZone, Report}
use Rattle.terms.specs.Choice.{Choice, vers_of, counting}
use Rattle.terms.specs.Forms.{IsDottedDate}
use Rattle.terms.specs.Rising.{with_item}
use Rattle.terms.specs.Tests.{Setting}
use Rattle.terms.specs.Install.{Installation}
use Rattle.terms.proofs.ListMembers.{none_in}
use Rattle.terms.proofs.Pairs.{pairs_unmap}
use Rattle.terms.proofs.Placing.{All_with_item}
use Rattle.store_schema.specs.Inventory.{IsRelated}
use Rattle.store_schema.proofs.Number.{empty_is_inventory}
use Rattle.machine.specs.Outcome.{Outcome, Line}
use Rattle.machine.specs.Installing.{InstallsSelected}
use Rattle.machine.specs.State.{State, zone_named, target_of, with_zone, ZoneDefinition, ZoneFault, define_zone}
use Rattle.machine.specs.Machine.{Files, Takes, TakesAll, TakesNone, TakesNoHold, Rejects, InstallsThere, RunsThere}
use Rattle.machine.specs.Machine.{RestoresThere, Act, Begin, Perform, Faulty, Define, state_after, Steps}
use Rattle.machine.specs.Runs.{Runs}
use Rattle.machine_laws.specs.Storable.{IsStorable, HasActForms}
use Rattle.machine_laws.proofs.Defined.{defined}
use Rattle.machine_laws.proofs.Lists.{find_itself}
use Rattle.machine_laws.proofs.ReceiveKeeps.{items_keep}
use Rattle.machine_laws.proofs.RejectKeeps.{reject_keeps_closed}
use Rattle.machine_laws.proofs.RestoreKeeps.{restore_keeps_closed}
use Rattle.machine_laws.proofs.StepForms.{step_storable}
use Rattle.machine_laws.proofs.StepKeeps.{named_has, empty_closed, each_zone}
use Rattle.terms.specs.Stream.{IsClean, IsOfStream, HasAllFixes, HasOwners, ChecksRequisites}
use Rattle.terms.specs.Stream.{ver_for, IsCleanFor}
use Rattle.stream_laws.specs.Service.{IsServed, AreServed, HasCleanStreams, IsService}
use Rattle.stream_laws.specs.Service.{IsServiceAct, Serves, empty_state, ServedZonesPass, ServiceServesAll}
use Rattle.stream_laws.proofs.NoRegression.{never_clashes_by_element, never_regresses}
use Rattle.stream_laws.proofs.Installed.{install_stays_of_stream, install_loses_no_fix}
use Rattle.stream_laws.proofs.OneVer.{counts_for, clean_by_what_counts, fixes_by, owners_by}
use Rattle.stream_laws.proofs.Received.{received_served}
use Rattle.stream_laws.proofs.Rejected.{rejects_keep, rejected_served}
use Rattle.stream_laws.proofs.Restored.{restored_served}

-- ---- zones that come in

placed_served : (g : Global) (zones : List NamedZone) (z : NamedZone) → All (λ (z : NamedZone). IsServed g z.zone) zones
    → IsServed g z.zone
    → All (λ (z : NamedZone). IsServed g z.zone) (with_item (slice_cmp nat_cmp) (λ (z : NamedZone). z.name) zones z)
placed_served g zones z all is = All_with_item (slice_cmp nat_cmp) (λ (z : NamedZone). z.name)
    (λ z. IsServed g z.zone) zones z all is

-- an empty zone is of every stream, and there is nothing to lack
empty_served : (g : Global) (kind : ZoneKind) (srel : Text) (related : Option Text)
    → IsServed g (a_zone kind srel related [] [])
empty_served g kind srel related = record {
  of_stream = record {
    closed = empty_closed g (counting g (a_zone kind srel related [] []) []) kind srel related;
    unwaived = λ x. refl;
    supby = λ x b. (λ there. absurd (none_in b there), λ by. absurd (true≢false (sym by.0)));
  };
  fixes = λ y in_stream there type name changes. absurd (true≢false (sym there));
  owners = λ y on type name changes e found. absurd (true≢false (sym on));
}

defined_served : (s t : State) (d : ZoneDefinition) → define_zone s d ≡ Ok t → AreServed s → AreServed t
defined_served s t d answers all = subst AreServed (defined s t d answers).adds
    (placed_served s.global s.zones (record { name = d.name; zone = a_zone d.kind d.srel d.related [] [] }) all
    (empty_served s.global d.kind d.srel d.related))

-- ---- APPLY and ACCEPT

module _ (s : State) (is : IsStorable s) (all : AreServed s) (clean : HasCleanStreams s) (z : NamedZone)
    (there : Contains s.zones z) (related : Option Zone) (sel : Selection) (bypass : Bypass) (date : Text) (new : Zone)
    (lines : List Line) (installs : InstallsSelected s.global z.zone related sel bypass date new lines)
    (dated : IsDottedDate date) (checks : ChecksRequisites bypass) where
  abbrev g : Global
  g = s.global

  served : IsServed g z.zone
  served = All-contains (λ (z : NamedZone). IsServed g z.zone) s.zones z all there

  clean_for : IsCleanFor g z.zone.srel
  clean_for = All-contains (λ (z : NamedZone). IsCleanFor g z.zone.srel) s.zones z clean there

  abbrev chosen : Choice
  chosen = installs.decision.setting.choice

  chosen_is : chosen ≡ counting g z.zone installs.decides.cands
  chosen_is = ap (λ (t : Setting). t.choice) installs.decides.setting

  for_srel : (x : Id) → chosen x ≡ ver_for g z.zone.srel x
  for_srel x = ap (λ c. c x) chosen_is
      ∙ counts_for g z.zone installs.decides.cands served.of_stream.closed clean_for.single x

  clean_by_chosen : IsClean g chosen
  clean_by_chosen = subst (IsClean g) (sym chosen_is)
      (clean_by_what_counts g z.zone installs.decides.cands served.of_stream.closed clean_for)

  of_stream : IsOfStream g (counting g new []) new
  of_stream = install_stays_of_stream (record { global = g; zones = s.zones }) z related sel bypass date
      installs.decision new is there dated installs.decides installs.installs checks clean_by_chosen served.of_stream

  same_srel : new.srel ≡ z.zone.srel
  same_srel = ap (λ (v : Zone). v.srel) installs.installs.rest
      ∙ ap (λ (i : Installation). i.zone.srel) installs.decides.installing

  counts_after : (x : Id) → chosen x ≡ counting g new [] x
  counts_after x = for_srel x ∙ sym (ap (λ srel. ver_for g srel x) same_srel)
      ∙ sym (counts_for g new [] of_stream.closed
      (subst (λ srel. (y : Id) → length (vers_of g srel y) ≤ 1) (sym same_srel) clean_for.single) x)

  chosen_before : (x : Id) → counting g z.zone [] x ≡ chosen x
  chosen_before x = counts_for g z.zone [] served.of_stream.closed clean_for.single x ∙ sym (for_srel x)

  pub installed_served : IsServed g new
  installed_served = record {
    of_stream = of_stream;
    fixes = fixes_by g chosen (counting g new []) counts_after new after.1;
    owners = owners_by g chosen (counting g new []) counts_after new after.0;
  }
    where
      after : HasOwners g chosen new × HasAllFixes g chosen new
      after = install_loses_no_fix (record { global = g; zones = s.zones }) z related sel bypass date
          installs.decision new is there installs.decides installs.installs clean_by_chosen served.of_stream
          (owners_by g (counting g z.zone []) chosen chosen_before z.zone served.owners)
          (fixes_by g (counting g z.zone []) chosen chosen_before z.zone served.fixes)

-- the zone of a name is one of the zones
named_there : (zones : List NamedZone) (name : Text) (zone : Zone) → zone_named zones name ≡ Some zone
    → (z : NamedZone) × Contains zones z × (z.zone ≡ zone)
named_there zones name zone =
    named_has (λ (v : Zone). (z : NamedZone) × Contains zones z × (z.zone ≡ v)) zones name zone
    (λ k d below. (get_or zones k d, All-contains_itself zones k d below, refl))

-- CHECK changes nothing
if_checked : (check : Bool) (s t : State) → AreServed s → AreServed t → AreServed (if check then s else t)
if_checked true s t all later = all
if_checked false s t all later = later

installs_served : (date : Text) (s : State) (c : Command) (i : Install) (related : Text → Option Zone) (t : State)
    (outcome : Outcome) → IsDottedDate date → InstallsThere date s c i related t outcome → ChecksRequisites i.bypass
    → IsStorable s → AreServed s → HasCleanStreams s → AreServed t
installs_served date s c i related t outcome dated r checks is all clean = subst AreServed (sym r.state)
    (if_checked i.check s (with_zone s r.name r.new) all
    (placed_served s.global s.zones (record { name = r.name; zone = r.new }) all
    (by (named_there s.zones r.name r.zone r.is_there))))
  where
    by : (z : NamedZone) × Contains s.zones z × (z.zone ≡ r.zone) → IsServed s.global r.new
    by (z, there, same) = installed_served s is all clean z there (related r.name) i.selection i.bypass date r.new
        r.lines (subst (λ v. InstallsSelected s.global v (related r.name) i.selection i.bypass date r.new r.lines)
        (sym same) r.installs) dated checks

-- ---- RECEIVE

taken_served : (files : Files) (s : State) (what : ReceiveOperands) (t : State) (outcome : Outcome)
    → Takes files s what t outcome → IsStorable s → AreServed s → HasCleanStreams t → AreServed t
taken_served files s what t outcome (TakesAll items holds middle g lines more reads held runs runs_holds) is all after =
    λ k d below. received_served s.global g (get_or s.zones k d).zone (each_zone s is k d below)
    (items_keep what.source items holds s.global middle g lines more runs runs_holds) (all k d below) (after k d below)
taken_served files s what t outcome (TakesNone fault reads is_fault) is all after = all
taken_served files s what t outcome (TakesNoHold items fault has reads is_fault) is all after = all

-- ---- REJECT

rejects_served : (s : State) (ids : List Id) (t : State) (outcome : Outcome) → Rejects s ids t outcome → IsStorable s
    → AreServed s → HasCleanStreams t → AreServed t
rejects_served s ids t outcome r is all after = subst AreServed (sym r.state) (λ k d below.
    rejected_served s.global r.new (get_or s.zones k d).zone is.global (each_zone s is k d below)
    (rejects_keep s.zones ids s.global r.new r.lines r.runs)
    (reject_keeps_closed s.zones (each_zone s is) ids s.global r.new r.lines r.runs
    (λ k d below. (all k d below).of_stream.closed) k d below)
    (all k d below) (subst HasCleanStreams r.state after k d below))

-- ---- RESTORE

-- the zone that a zone names as related has its SREL
related_srel : (zones : List NamedZone) → IsRising (map (λ z. z.name) zones) → (kind : ZoneKind) (srel : Text)
    (related : Option Text) (accepted : Zone) → IsRelated zones kind srel related
    → option_and_then (zone_named zones) related ≡ Some accepted → accepted.srel ≡ srel
related_srel zones rising Target srel None accepted is found = absurd is
related_srel zones rising Target srel (Some name) accepted (z, there, named, kind, has) found =
    let rises = pairs_unmap (λ (a b : NamedZone). IsTrue (is_before a.name b.name))
    (λ (x y : Text). IsTrue (is_before x y)) (λ z. z.name) (λ a b lower. lower) zones rising in
    let itself = find_itself nat_list_cmp_total (λ (z : NamedZone). z.name) bytes_eq texts_ties zones z rises there in
    let is : Some z.zone ≡ Some accepted = sym (ap (option_map (λ (z : NamedZone). z.zone)) itself)
    ∙ ap (zone_named zones) named ∙ found in
    ap (λ (v : Zone). v.srel) (sym (same_Some z.zone accepted is)) ∙ has
related_srel zones rising Distribution srel related accepted is found =
    absurd (cc (sym found ∙ ap (option_and_then (zone_named zones)) is))

restores_served : (s : State) (what : RestoreList) (check : Bool) (t : State) (outcome : Outcome)
    → RestoresThere s what check t outcome → IsStorable s → AreServed s → HasCleanStreams s → AreServed t
restores_served s what check t outcome r is all clean = subst AreServed (sym r.state)
    (if_checked check s (with_zone s r.name r.new) all
    (placed_served s.global s.zones (record { name = r.name; zone = r.new }) all
    (restored_served s.global r.zone r.accepted what r.new r.lines r.restores is_zone zone_served level same_srel
    (named_has (λ z. IsCleanFor s.global z.srel) s.zones r.name r.zone clean r.is_there)
    (restore_keeps_closed s.global r.zone r.accepted what r.new r.lines r.restores is.global is_zone same_srel
    zone_served.of_stream.closed level.of_stream.closed))))
  where
    served_of : (zone : Zone) (name : Text) → zone_named s.zones name ≡ Some zone → IsServed s.global zone
    served_of zone name = named_has (IsServed s.global) s.zones name zone all

    zone_served : IsServed s.global r.zone
    zone_served = served_of r.zone r.name r.is_there

    by : (related : Option Text) → option_and_then (zone_named s.zones) related ≡ Some r.accepted
        → IsServed s.global r.accepted
    by None found = absurd (cc found)
    by (Some name) found = served_of r.accepted name found

    level : IsServed s.global r.accepted
    level = by r.zone.related r.related

    is_zone : IsZone r.zone
    is_zone = named_has IsZone s.zones r.name r.zone (each_zone s is) r.is_there

    same_srel : r.accepted.srel ≡ r.zone.srel
    same_srel = related_srel s.zones is.names r.zone.kind r.zone.srel r.zone.related r.accepted
        (named_has (λ z. IsRelated s.zones z.kind z.srel z.related) s.zones r.name r.zone is.related r.is_there)
        r.related

-- ---- acts

command_served : (date : Text) (files : Files) (s : State) (c : Command) (t : State) (outcome : Outcome) → IsService c
    → IsDottedDate date → RunsThere date files s c t outcome → IsStorable s → AreServed s → HasCleanStreams s
    → HasCleanStreams t → AreServed t
command_served date files s (Set name) t outcome service dated runs is all before after =
    subst AreServed (sym runs.0) all
command_served date files s (Receive what) t outcome service dated runs is all before after =
    taken_served files s what t outcome runs is all after
command_served date files s (Reject ids) t outcome service dated runs is all before after =
    rejects_served s ids t outcome runs is all after
command_served date files s (Apply i) t outcome service dated runs is all before after =
    installs_served date s (Apply i) i (λ name. None) t outcome dated runs service is all before
command_served date files s (Accept i) t outcome service dated runs is all before after =
    installs_served date s (Accept i) i (target_of s.zones) t outcome dated runs service is all before
command_served date files s (Restore what check) t outcome service dated runs is all before after =
    restores_served s what check t outcome runs is all before
command_served date files s (ListZone text) t outcome service dated runs is all before after =
    subst AreServed (sym runs.0) all
command_served date files s Report t outcome service dated runs is all before after = subst AreServed (sym runs.0) all

defining_served : (s t : State) (d : ZoneDefinition) → AreServed s → t ≡ state_after s (define_zone s d) → AreServed t
defining_served s t d all at = subst AreServed (sym at) (by (define_zone s d) refl)
  where
    by : (r : Result State ZoneFault) → define_zone s d ≡ r → AreServed (state_after s r)
    by (Ok u) answers = defined_served s u d answers all
    by (Err why) answers = all

act_served : (s : State) (a : Act) (t : State) (outcomes : List Outcome) → Serves s a t outcomes → IsStorable s
    → AreServed s → AreServed t
act_served s a t outcomes serves is all = by a serves.service serves.forms serves.steps
  where
    by : (a : Act) → IsServiceAct a → HasActForms a → Steps s a t outcomes → AreServed t
    by Begin service form steps = subst AreServed (sym steps.0) all
    by (Perform date files c) service form (outcome, inl refused, printed) = subst AreServed (sym refused.2) all
    by (Perform date files c) service form (outcome, inr runs, printed) =
        command_served date files s c t outcome service form.0 runs.1 is all serves.before serves.after
    by (Faulty fault) service form steps = subst AreServed (sym steps.0) all
    by (Define d) service form steps = defining_served s t d all steps.0

runs_served : (acts : List Act) (s t : State) (outcomes : List Outcome) → Runs Serves s acts t outcomes → IsStorable s
    → AreServed s → AreServed t
runs_served [] s t outcomes (same, none) is all = subst AreServed (sym same) all
runs_served (a ∷ acts) s t outcomes (m, front, back, serves, runs, are) is all =
    runs_served acts m t back runs (step_storable s m a front is serves.forms serves.steps)
    (act_served s a m front serves is all)

-- ---- the laws

pub served_zones_pass : ServedZonesPass
served_zones_pass g zone related sel cands bypass is_zone are clean is =
    let by = clean_by_what_counts g zone cands is.of_stream.closed clean in (
      never_regresses g zone related sel cands bypass is_zone are by is.of_stream,
      never_clashes_by_element g zone related sel cands bypass is_zone are by,
    )

pub service_serves_all : ServiceServesAll
service_serves_all acts t outcomes runs =
    runs_served acts empty_state t outcomes runs empty_is_inventory (λ k d below. absurd (omega (arith, below)))
