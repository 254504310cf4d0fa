-- Each act of the machine keeps what counts for what is applied before it and after it.
use Rattle.std.proofs.Common.{◌≡◌, ◌∙◌, inl, inr, Bool, true, false, not, List, [], ◌∷◌, Option, None, Some, Contains}
use Rattle.std.proofs.Common.{IsTrue, cond, get_or, is_some, refl, sym, ap, subst, true≢false}
use Rattle.std.specs.Prelude.{Result, Ok, Err, find, option_map, if◌then◌else◌}
use Rattle.std.specs.List.{list_any}
use Rattle.std.specs.Str.{bytes_eq}
use Rattle.std.specs.Cmp.Lexicographic.{texts_ties}
use Rattle.std.proofs.lemmas.Bool.{false_from_ne_true}
use Rattle.std.proofs.lemmas.Cmp.{nat_list_cmp_total}
use Rattle.std.proofs.lemmas.List.Elements.{All-contains, All-contains_itself}
use Rattle.std.proofs.lemmas.Option.{same_Some}
use Rattle.terms.proofs.Searches.{All_from_no_list_any}
use Rattle.terms.proofs.TextOrder.{same_from}
use Rattle.terms.specs.Types.{Text, Id, Global, Zone, a_zone, NamedZone, ReceiveOperands, Install, RestoreList, Command}
use Rattle.terms.specs.Types.{Set, Receive, Reject, Apply, Accept, Restore, ListZone, Report}
use Rattle.terms.specs.Lookups.{IsZone, is_in, is_applied, is_received}
use Rattle.terms.specs.Choice.{counting}
use Rattle.terms.specs.Global.{AppliedSomewhere, UnknownSysmod, without_sysmod, reject}
use Rattle.terms.specs.Install.{Installation, HasInstalled}
use Rattle.terms.specs.Judged.{setting}
use Rattle.terms.specs.Restore.{Restoring, Restores}
use Rattle.terms.specs.Closed.{IsClosedZone, AreClosed}
use Rattle.sorted.proofs.InTurn.{find_with_item}
use Rattle.machine.specs.Outcome.{Outcome, Line}
use Rattle.machine.specs.Receiving.{global_after}
use Rattle.machine.specs.Rejecting.{RejectsId}
use Rattle.machine.specs.State.{State, zone_named, target_of, with_zone, ZoneDefinition, ZoneFault, define_zone}
use Rattle.machine.specs.Machine.{Files, Takes, TakesAll, TakesNone, TakesNoHold, Rejects, InstallsThere, RestoresThere}
use Rattle.machine.specs.Machine.{RunsThere, Act, Begin, Perform, Faulty, Define, state_after, Steps}
use Rattle.machine.specs.Runs.{Runs}
use Rattle.machine_laws.proofs.Defined.{defined}
use Rattle.machine_laws.specs.Storable.{IsStorable}
use Rattle.machine_laws.specs.Choices.{KeepsChoice, InstallKeepsChoice, StepKeepsChoice}
use Rattle.machine_laws.proofs.AlikeSysmods.{AreAlike, alike_choice, applied_received}
use Rattle.machine_laws.proofs.Given.{installing}
use Rattle.machine_laws.proofs.KeptChoice.{counts_whatever, counts_left, install_keeps_choice}
use Rattle.machine_laws.proofs.ReceiveKeeps.{items_keep}
use Rattle.machine_laws.proofs.RejectKeeps.{without_alike}
use Rattle.machine_laws.proofs.StepKeeps.{named_has, each_zone}
use Rattle.terms.proofs.Applied.{in_applied_ids}

-- ---- one zone

-- The choice of an install is what counts after it.
pub install_chooses : InstallKeepsChoice
install_chooses g zone related sel bypass date d new is decides installs x later on =
    let s = setting g zone related decides.cands bypass in
    let installed = subst (λ (i : Installation). HasInstalled i new) decides.installing installs in
    install_keeps_choice (installing s d.kept decides.bypassed date) decides.cands (λ y. refl) is new installed later x
    on
    ∙ ap (λ c. c x) (sym (ap (λ s. s.choice) decides.setting))

-- The candidates do not matter, nor do sources.
alike_counts : (g h : Global) (zone : Zone) (cands later : List Id) (x : Id) → AreAlike g h x
    → IsTrue (is_applied zone x) → counting h zone later x ≡ counting g zone cands x
alike_counts g h zone cands later x alike on =
    counts_whatever h zone later [] x on ∙ alike_choice g h zone x alike ∙ counts_whatever g zone [] cands x on

-- ---- the zones of a state

-- in each zone of the state
abbrev KeepsChoices : State → State → Type 0
KeepsChoices s t = (name : Text) (old new : Zone) → zone_named s.zones name ≡ Some old
    → zone_named t.zones name ≡ Some new → KeepsChoice s.global old t.global new

-- another global zone, in which what is applied is alike
by_global : (s : State) (h : Global)
    → ((name : Text) (zone : Zone) → zone_named s.zones name ≡ Some zone → (x : Id) → IsTrue (is_applied zone x)
    → AreAlike s.global h x) → KeepsChoices s (record s { global = h })
by_global s h alike name old new was now x cands later of_old of_new =
    subst (λ z. counting h z later x ≡ counting s.global old cands x) (same_Some old new (sym was ∙ now))
    (alike_counts s.global h old cands later x (alike name old was x of_old) of_old)

by_nothing : (s : State) → KeepsChoices s s
by_nothing s = by_global s s.global (λ name zone there x on. refl)

-- another zone in place of the one of its name
by_zone : (s : State) (at : Text) (next : Zone)
    → ((zone : Zone) → zone_named s.zones at ≡ Some zone → KeepsChoice s.global zone s.global next)
    → KeepsChoices s (with_zone s at next)
by_zone s at next keeps name old new was now = by (bytes_eq at name) refl
  where
    found : option_map (λ (z : NamedZone). z.zone)
        (cond (bytes_eq at name) (Some (record { name = at; zone = next })) (find (λ z. bytes_eq z.name name) s.zones))
        ≡ Some new
    found = sym (ap (option_map (λ (z : NamedZone). z.zone)) (find_with_item nat_list_cmp_total
        (λ (z : NamedZone). z.name) bytes_eq texts_ties s.zones (record { name = at; zone = next }) name)) ∙ now

    by : (b : Bool) → bytes_eq at name ≡ b → KeepsChoice s.global old s.global new
    by true same =
        let is : Some next ≡ Some new = sym (ap (λ b. option_map (λ (z : NamedZone). z.zone)
        (cond b (Some (record { name = at; zone = next })) (find (λ z. bytes_eq z.name name) s.zones))) same) ∙ found in
        subst (λ z. KeepsChoice s.global old s.global z) (same_Some next new is)
        (keeps old (ap (zone_named s.zones) (same_from at name same) ∙ was))
    by false other =
        let is : zone_named s.zones name ≡ Some new = sym (ap (λ b. option_map (λ (z : NamedZone). z.zone)
        (cond b (Some (record { name = at; zone = next })) (find (λ z. bytes_eq z.name name) s.zones))) other) ∙ found
        in
        by_nothing s name old new was is

-- CHECK changes nothing
if_checked : (check : Bool) (s t : State) → KeepsChoices s t → KeepsChoices s (if check then s else t)
if_checked true s t keeps = by_nothing s
if_checked false s t keeps = keeps

-- ---- REJECT

module _ (zones : List NamedZone) (z : NamedZone) (there : Contains zones z) (y : Id)
    (on : IsTrue (is_applied z.zone y)) where
  -- what is applied somewhere is refused
  rejected_alike : (g : Global) (x : Id) → AreAlike g (global_after g (reject g zones x)) y
  rejected_alike g x = by (is_received g x) (list_any (λ (z : NamedZone). is_applied z.zone x) zones) refl
    where
      without : list_any (λ (z : NamedZone). is_applied z.zone x) zones ≡ false → AreAlike g (without_sysmod g x) y
      without none = without_alike g x y (false_from_ne_true (bytes_eq x y) (λ same.
          true≢false (sym on ∙ ap (is_applied z.zone) (sym (same_from x y same))
          ∙ All-contains (λ (z : NamedZone). is_applied z.zone x ≡ false) zones z
          (All_from_no_list_any (λ (z : NamedZone). is_applied z.zone x) zones none) there)))

      by : (received applied : Bool) → list_any (λ (z : NamedZone). is_applied z.zone x) zones ≡ applied
          → AreAlike g (global_after g (if not received then Err UnknownSysmod
          else if applied then Err AppliedSomewhere else
          Ok (without_sysmod g x))) y
      by false applied at = refl
      by true true at = refl
      by true false at = without at

  rejects_alike : (ids : List Id) (g new : Global) (lines : List Line) → Runs (RejectsId zones) g ids new lines
      → AreAlike g new y
  rejects_alike [] g new lines (same, none) = subst (λ h. AreAlike g h y) (sym same) refl
  rejects_alike (x ∷ ids) g new lines (m, front, back, takes, runs, are) =
      rejects_alike ids m new back runs ∙ subst (λ h. AreAlike g h y) (sym takes.0) (rejected_alike g x)

-- ---- commands

module _ (s : State) (is : IsStorable s) (closed : AreClosed s.global s.zones) where
  zone_of : (name : Text) (zone : Zone) → zone_named s.zones name ≡ Some zone → IsZone zone
  zone_of name zone = named_has IsZone s.zones name zone (each_zone s is)

  received_in : (name : Text) (zone : Zone) → zone_named s.zones name ≡ Some zone → (x : Id)
      → IsTrue (is_applied zone x) → IsTrue (is_received s.global x)
  received_in name zone there x on = applied_received s.global zone []
      (named_has (λ z. IsClosedZone s.global (counting s.global z []) z) s.zones name zone closed there) x
      (in_applied_ids zone x on)

  taken : (files : Files) (what : ReceiveOperands) (t : State) (outcome : Outcome) → Takes files s what t outcome
      → KeepsChoices s t
  taken files what t outcome (TakesAll items holds middle g lines more reads held runs runs_holds) =
      by_global s g (λ name zone there x on. items_keep what.source items holds s.global middle g lines more runs
      runs_holds x (received_in name zone there x on))
  taken files what t outcome (TakesNone fault reads is_fault) = by_nothing s
  taken files what t outcome (TakesNoHold items fault has reads is_fault) = by_nothing s

  rejects : (ids : List Text) (t : State) (outcome : Outcome) → Rejects s ids t outcome → KeepsChoices s t
  rejects ids t outcome r = subst (KeepsChoices s) (sym r.state) (by_global s r.new (λ name zone there.
      named_has (λ z. (x : Id) → IsTrue (is_applied z x) → AreAlike s.global r.new x) s.zones name zone
      (λ k d below x on. rejects_alike s.zones (get_or s.zones k d) (All-contains_itself s.zones k d below) x on ids
      s.global r.new r.lines r.runs) there))

  installs : (date : Text) (c : Command) (i : Install) (related : Text → Option Zone) (t : State) (outcome : Outcome)
      → InstallsThere date s c i related t outcome → KeepsChoices s t
  installs date c i related t outcome r = subst (KeepsChoices s) (sym r.state)
      (if_checked i.check s (with_zone s r.name r.new) (by_zone s r.name r.new (λ zone there.
      subst (λ z. KeepsChoice s.global z s.global r.new) (same_Some r.zone zone (sym r.is_there ∙ there)) keeps)))
    where
      keeps : KeepsChoice s.global r.zone s.global r.new
      keeps x cands later of_old of_new =
          let d = r.installs.decision in
          let decides = r.installs.decides in
          install_chooses s.global r.zone (related r.name) i.selection i.bypass date d r.new
          (zone_of r.name r.zone r.is_there) decides r.installs.installs x later of_new
          ∙ ap (λ c. c x) (ap (λ s. s.choice) decides.setting)
          ∙ counts_whatever s.global r.zone decides.cands cands x of_old

  restores : (what : RestoreList) (check : Bool) (t : State) (outcome : Outcome)
      → RestoresThere s what check t outcome → KeepsChoices s t
  restores what check t outcome r = subst (KeepsChoices s) (sym r.state)
      (if_checked check s (with_zone s r.name r.new) (by_zone s r.name r.new (λ zone there.
      subst (λ z. KeepsChoice s.global z s.global r.new) (same_Some r.zone zone (sym r.is_there ∙ there)) keeps)))
    where
      done : Restores (record {
        global = s.global;
        choice = counting s.global r.zone [];
        zone = r.zone;
        accepted = r.accepted;
      }) r.restores.kept r.new
      done = subst (λ (v : Restoring). Restores v r.restores.kept r.new) r.restores.setting_is r.restores.restores

      keeps : KeepsChoice s.global r.zone s.global r.new
      keeps x cands later of_old of_new =
          counts_left s.global (is_in r.restores.kept) r.zone r.new later cands x
          (zone_of r.name r.zone r.is_there) done.entries (ap (λ (z : Zone). z.srel) done.rest) of_new

  command : (date : Text) (files : Files) (c : Command) (t : State) (outcome : Outcome)
      → RunsThere date files s c t outcome → KeepsChoices s t
  command date files (Set name) t outcome runs = subst (KeepsChoices s) (sym runs.0) (by_nothing s)
  command date files (Receive what) t outcome runs = taken files what t outcome runs
  command date files (Reject ids) t outcome runs = rejects ids t outcome runs
  command date files (Apply i) t outcome runs = installs date (Apply i) i (λ name. None) t outcome runs
  command date files (Accept i) t outcome runs = installs date (Accept i) i (target_of s.zones) t outcome runs
  command date files (Restore what check) t outcome runs = restores what check t outcome runs
  command date files (ListZone text) t outcome runs = subst (KeepsChoices s) (sym runs.0) (by_nothing s)
  command date files Report t outcome runs = subst (KeepsChoices s) (sym runs.0) (by_nothing s)

  defining : (t : State) (d : ZoneDefinition) → t ≡ state_after s (define_zone s d) → KeepsChoices s t
  defining t d at = subst (KeepsChoices s) (sym at) (by (define_zone s d) refl)
    where
      by : (r : Result State ZoneFault) → define_zone s d ≡ r → KeepsChoices s (state_after s r)
      by (Ok u) answers =
          let made = defined s u d answers in
          subst (KeepsChoices s) made.adds (by_zone s d.name (a_zone d.kind d.srel d.related [] []) (λ zone there.
          absurd (true≢false (sym (ap is_some there) ∙ made.is_new))))
      by (Err why) answers = by_nothing s

  act : (a : Act) (t : State) (outcomes : List Outcome) → Steps s a t outcomes → KeepsChoices s t
  act Begin t outcomes steps = subst (KeepsChoices s) (sym steps.0) (by_nothing s)
  act (Perform date files c) t outcomes (outcome, inl refused, printed) =
      subst (KeepsChoices s) (sym refused.2) (by_nothing s)
  act (Perform date files c) t outcomes (outcome, inr runs, printed) = command date files c t outcome runs.1
  act (Faulty fault) t outcomes steps = subst (KeepsChoices s) (sym steps.0) (by_nothing s)
  act (Define d) t outcomes steps = defining t d steps.0

-- Each act keeps what counts for what is applied.
pub step_keeps_choice : StepKeepsChoice
step_keeps_choice s t a outcomes is closed steps = act s is closed a t outcomes steps
