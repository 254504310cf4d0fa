-- Each act has an answer from each state that can be stored: that it has none can be refuted. Each act but APPLY,
-- ACCEPT and RESTORE simply has one, where each of its files is of items or has a fault.
use Rattle.std.proofs.Common.{◌≡◌, inl, inr, Bool, true, false, List, [], ◌∷◌, ◌++◌, Option, None, Some}
use Rattle.std.proofs.Common.{IfSome, refl, sym, ◌∙◌, ap, subst}
use Rattle.std.specs.Prelude.{is_some}
use Rattle.std.specs.List.{AllByRecursion}
use Rattle.terms.specs.declared.kinds.ZoneKind.TheVariants.{Target, Distribution}
use Rattle.terms.specs.Types.{Text, Id, Global, Zone, Item, HoldItem, ReceiveOperands, Command, Set}
use Rattle.terms.specs.Types.{Receive, Reject, Apply, Accept, Restore, ListZone, Report}
use Rattle.terms.specs.Forms.{IsSource}
use Rattle.terms.specs.Global.{IsGlobal, reject}
use Rattle.terms.specs.Ptfin.{IsPtfin}
use Rattle.terms.specs.HoldFile.{IsHoldFile}
use Rattle.machine.specs.Outcome.{Refusal, BadPtfin, BadHoldFile, StatusLine, Outcome, Ran, Refused}
use Rattle.machine.specs.Outcome.{Control, header_of, or_nothing}
use Rattle.machine.specs.State.{State, current_zone, target_of, misplaced, define_zone}
use Rattle.machine.specs.Receiving.{global_after, place_of, TakesItem, TakesHoldItem}
use Rattle.machine.specs.Rejecting.{reject_status, RejectsId}
use Rattle.machine.specs.Machine.{Files, HasItems, Takes, TakesAll, TakesNone, TakesNoHold, Rejects, ReportsThere}
use Rattle.machine.specs.Machine.{listed}
use Rattle.machine.specs.Machine.{RunsThere, Performs, Act, Begin, Perform, Faulty, Define, state_after, Steps}
use Rattle.machine_laws.proofs.GlobalForms.{HasGlobalForms}
use Rattle.machine_laws.proofs.PtfinForms.{IsItem, ptfin_formed}
use Rattle.machine_laws.proofs.ReceivingForms.{item_forms}
use Rattle.machine_laws.specs.Storable.{IsStorable, HasCommandForms, HasActForms}
use Rattle.machine_laws.specs.Answers.{IsAnswered, AreRead, IsPlain, IsPlainAct}
use Rattle.machine_laws.proofs.InstallRuns.{install_runs}
use Rattle.machine_laws.proofs.RestoreRuns.{fits_from, restore_runs}
use Rattle.machine_laws.proofs.RunsAnswered.{runs_answered, every_answered}
use Rattle.machine_laws.proofs.ReceiveAnswered.{item_some, hold_item_some}
use Rattle.machine_laws.proofs.FileRead.{ptfin_read, hold_file_read}
use Rattle.machine_laws.proofs.ReportAnswered.{errsysmods_some}

-- ---- RECEIVE

module _ (files : Files) (s : State) (what : ReceiveOperands) (has : HasGlobalForms s.global)
    (form : IfSome what.source IsSource) (read : AreRead files) where
  abbrev Taken : Type 0
  Taken = (t : State) × (outcome : Outcome) × Takes files s what t outcome

  all_taken : (items : List Item) (holds : List HoldItem) → AllByRecursion IsItem items
      → HasItems IsPtfin what.sysmods files.ptfin items → HasItems IsHoldFile what.holddata files.holds holds → Taken
  all_taken items holds each reads reads_holds =
      let first = runs_answered (TakesItem what.source) HasGlobalForms IsItem
      (λ g item has is. item_some what.source g item has.is_global.no_loop)
      (λ g new item lines has is takes. item_forms what.source form g new item lines is has takes) items s.global has
      each in
      let second = every_answered TakesHoldItem hold_item_some holds first.0 in (
        record s { global = second.0 },
        Ran (header_of (Receive what) s.boundary) (or_nothing (first.1 ++ second.1)),
        TakesAll items holds first.0 second.0 first.1 second.1 reads reads_holds first.2 second.2,
      )

  behind_items : (items : List Item) → AllByRecursion IsItem items → HasItems IsPtfin what.sysmods files.ptfin items
      → Taken
  behind_items items each reads = by what.holddata refl
    where
      by : (b : Bool) → what.holddata ≡ b → Taken
      by false at = all_taken items [] each reads (subst (λ b. HasItems IsHoldFile b files.holds []) (sym at) refl)
      by true at = elim read.holds [
        | inl good ↦ all_taken items good.0 each reads
            (subst (λ b. HasItems IsHoldFile b files.holds good.0) (sym at) good.1)
        | inr bad ↦ (
          s,
          Refused (header_of (Receive what) s.boundary) (BadHoldFile bad.0.number bad.0.code),
          TakesNoHold items bad.0 reads at bad.1,
        )
      ]

  takes_some : Taken
  takes_some = by what.sysmods refl
    where
      by : (b : Bool) → what.sysmods ≡ b → Taken
      by false at = behind_items [] tt (subst (λ b. HasItems IsPtfin b files.ptfin []) (sym at) refl)
      by true at = elim read.ptfin [
        | inl good ↦ behind_items good.0 (ptfin_formed files.ptfin good.0 good.1)
            (subst (λ b. HasItems IsPtfin b files.ptfin good.0) (sym at) good.1)
        | inr bad ↦ (
          s,
          Refused (header_of (Receive what) s.boundary) (BadPtfin bad.0.number bad.0.code),
          TakesNone bad.0 at bad.1,
        )
      ]

-- ---- REJECT and REPORT

rejected_some : (s : State) (g : Global) (x : Id) → IsAnswered (RejectsId s.zones) g x
rejected_some s g x = (
  global_after g (reject g s.zones x),
  StatusLine x (place_of g x) (reject_status (reject g s.zones x)) ∷ [],
  (refl, refl),
)

rejects_some : (s : State) (ids : List Id) → (t : State) × (outcome : Outcome) × Rejects s ids t outcome
rejects_some s ids =
    let runs = every_answered (RejectsId s.zones) (rejected_some s) ids s.global in (
      record s { global = runs.0 },
      Ran (header_of (Reject ids) s.boundary) runs.1,
      record { new = runs.0; lines = runs.1; runs = runs.2; state = refl; prints = refl },
    )

reports_some : (s : State) → IsGlobal s.global → misplaced s Report ≡ None
    → (outcome : Outcome) × ReportsThere s outcome
unfolding misplaced
reports_some s is none = by (current_zone s) refl
  where
    there : is_some (current_zone s) ≡ true
    there = fits_from (is_some s.boundary) (is_some (current_zone s)) none

    by : (o : Option Zone) → current_zone s ≡ o → (outcome : Outcome) × ReportsThere s outcome
    by None at = absurd (cc (sym there ∙ ap is_some at))
    by (Some zone) at =
        let some = errsysmods_some s.global zone is in (
          Ran (header_of Report s.boundary) some.0,
          record { zone = zone; is_there = at; lines = some.0; lines_are = some.1; prints = refl },
        )

-- ---- each act

run_some : (date : Text) (files : Files) (s : State) (c : Command) → IsStorable s → HasCommandForms c → AreRead files
    → IsPlain c → misplaced s c ≡ None → (t : State) × (outcome : Outcome) × RunsThere date files s c t outcome
run_some date files s (Set name) is form read plain at =
    (record s { boundary = Some name }, Ran (header_of (Set name) s.boundary) [], (refl, refl))
run_some date files s (Receive what) is form read plain at =
    takes_some files s what (record { is_global = is.global; sysmods = is.sysmods; holds = is.holds }) form read
run_some date files s (Reject ids) is form read plain at = rejects_some s ids
run_some date files s (Apply i) is form read plain at = absurd plain
run_some date files s (Accept i) is form read plain at = absurd plain
run_some date files s (Restore what check) is form read plain at = absurd plain
run_some date files s (ListZone text) is form read plain at =
    (s, Ran (header_of (ListZone text) s.boundary) (listed s text), (refl, refl))
run_some date files s Report is form read plain at =
    let some = reports_some s is.global at in (s, some.0, (refl, some.1))

pub perform_some : (date : Text) (files : Files) (s : State) (c : Command) → IsStorable s → HasCommandForms c
    → AreRead files → IsPlain c → (t : State) × (outcome : Outcome) × Performs date files s c t outcome
perform_some date files s c is form read plain = by (misplaced s c) refl
  where
    by : (o : Option Refusal) → misplaced s c ≡ o
        → (t : State) × (outcome : Outcome) × Performs date files s c t outcome
    by (Some why) at = (s, Refused (header_of c s.boundary) why, inl (why, at, refl, refl))
    by None at =
        let some = run_some date files s c is form read plain at in
        (some.0, some.1, inr (at, some.2))

-- Such an act has an answer.
pub step_some : (s : State) (a : Act) → IsStorable s → HasActForms a → IsPlainAct a → IsAnswered Steps s a
step_some s Begin is form plain = (record s { boundary = None }, [], (refl, refl))
step_some s (Perform date files c) is form plain =
    let some = perform_some date files s c is form.1 plain.0 plain.1 in
    (some.0, some.1 ∷ [], (some.1, some.2, refl))
step_some s (Faulty fault) is form plain = (s, Control fault ∷ [], (refl, refl))
step_some s (Define d) is form plain = (state_after s (define_zone s d), [], (refl, refl))

-- ---- whatever the files hold

are_read : (files : Files) → ¬ ¬ AreRead files
are_read files none = ptfin_read files.ptfin (λ ptfin. hold_file_read files.holds (λ holds.
    none (record { ptfin = ptfin; holds = holds })))

abbrev pub IsAnsweredCommand : Text → Files → State → Command → Type 0
IsAnsweredCommand date files s c = (t : State) × (outcome : Outcome) × Performs date files s c t outcome

plain_answered : (date : Text) (files : Files) (s : State) (c : Command) → IsStorable s → HasCommandForms c → IsPlain c
    → ¬ ¬ IsAnsweredCommand date files s c
plain_answered date files s c is form plain none =
    are_read files (λ read. none (perform_some date files s c is form read plain))

-- a command that runs wherever it is not misplaced
answered_where_it_runs : (date : Text) (files : Files) (s : State) (c : Command)
    → (misplaced s c ≡ None → ¬ ¬ ((t : State) × (outcome : Outcome) × RunsThere date files s c t outcome))
    → ¬ ¬ IsAnsweredCommand date files s c
answered_where_it_runs date files s c runs none = by (misplaced s c) refl
  where
    by : (o : Option Refusal) → misplaced s c ≡ o → ⊥
    by (Some why) at = none (s, Refused (header_of c s.boundary) why, inl (why, at, refl, refl))
    by None at = runs at (λ some. none (some.0, some.1, inr (at, some.2)))

command_answered : (date : Text) (files : Files) (s : State) (c : Command) → IsStorable s → HasCommandForms c
    → ¬ ¬ IsAnsweredCommand date files s c
unfolding misplaced
command_answered date files s (Set name) is form = plain_answered date files s (Set name) is form tt
command_answered date files s (Receive what) is form = plain_answered date files s (Receive what) is form tt
command_answered date files s (Reject ids) is form = plain_answered date files s (Reject ids) is form tt
command_answered date files s (Apply i) is form =
    answered_where_it_runs date files s (Apply i) (install_runs date s (Apply i) i (λ name. None) is Target)
command_answered date files s (Accept i) is form =
    answered_where_it_runs date files s (Accept i)
    (install_runs date s (Accept i) i (target_of s.zones) is Distribution)
command_answered date files s (Restore what check) is form =
    answered_where_it_runs date files s (Restore what check) (restore_runs s what check is)
command_answered date files s (ListZone text) is form = plain_answered date files s (ListZone text) is form tt
command_answered date files s Report is form = plain_answered date files s Report is form tt

-- It can't be refuted that an act has an answer.
pub step_answered : (s : State) (a : Act) → IsStorable s → HasActForms a → ¬ ¬ IsAnswered Steps s a
step_answered s Begin is form none = none (step_some s Begin is form tt)
step_answered s (Perform date files c) is form none =
    command_answered date files s c is form.1 (λ some. none (some.0, some.1 ∷ [], (some.1, some.2, refl)))
step_answered s (Faulty fault) is form none = none (step_some s (Faulty fault) is form tt)
step_answered s (Define d) is form none = none (step_some s (Define d) is form tt)
