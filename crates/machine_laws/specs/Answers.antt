-- There is at most one answer, and there is one: of a file, and of a step.
use Rattle.std.specs.Prelude.{◌≡◌, ◌⊎◌, ℕ, List, Option, All}
use Rattle.std.specs.List.{AllByRecursion}
use Rattle.terms.specs.Types.{Text, Global, Zone, Selection, Bypass, Command, Apply, Accept, Restore}
use Rattle.terms.specs.Lookups.{IsZone}
use Rattle.terms.specs.Global.{IsGlobal}
use Rattle.terms.specs.Ptfin.{IsPtfin, IsPtfinFault}
use Rattle.terms.specs.HoldFile.{IsHoldFile, IsHoldFileFault}
use Rattle.terms.specs.Commands.{IsCommandFile, IsCommandFileFault}
use Rattle.terms.specs.Install.{HasInstalled}
use Rattle.store_schema.specs.Forms.{HasSysmodForms, HasZoneForms}
use Rattle.machine.specs.Installing.{Decision, IsDecision}
use Rattle.machine.specs.State.{State}
use Rattle.machine.specs.Machine.{Files, Act, Perform, Steps, Job, Answer, RunsJob, RunsJobs}
use Rattle.machine_laws.specs.Storable.{IsStorable, HasActForms, HasJobForms}

-- A file consists of at most one list of items, has at most one fault, and never both.
pub record IsReadOnce {X F : Type 0} (Is : List X → Type 0) (IsFault : F → Type 0) : Type 0 where
  pub items : (xs ys : List X) → Is xs → Is ys → xs ≡ ys
  pub faults : (f g : F) → IsFault f → IsFault g → f ≡ g
  pub apart : (xs : List X) (f : F) → Is xs → IsFault f → ⊥

-- It consists of items, or has a fault.
abbrev pub IsRead : {X F : Type 0} → (List X → Type 0) → (F → Type 0) → Type 0
IsRead {X} {F} Is IsFault = ((xs : List X) × Is xs) ⊎ ((fault : F) × IsFault fault)

-- Both files of RECEIVE are.
pub record AreRead (files : Files) : Type 0 where
  pub ptfin : IsRead (IsPtfin files.ptfin) (IsPtfinFault files.ptfin)
  pub holds : IsRead (IsHoldFile files.holds) (IsHoldFileFault files.holds)

-- From this state the act leads to at most one state, and prints one list.
abbrev pub IsOnce : {S A B : Type 0} → (S → A → S → List B → Type 0) → S → A → Type 0
IsOnce {S} {A} {B} Steps s a = (t u : S) (front back : List B) → Steps s a t front → Steps s a u back
    → (t ≡ u) × (front ≡ back)

-- From this state the act leads to some state.
abbrev pub IsAnswered : {S A B : Type 0} → (S → A → S → List B → Type 0) → S → A → Type 0
IsAnswered {S} {A} {B} Steps s a = (t : S) × (printed : List B) × Steps s a t printed

-- a command that installs and restores nothing
abbrev pub IsPlain : Command → Type 0
IsPlain (Apply i) = ⊥
IsPlain (Accept i) = ⊥
IsPlain (Restore what check) = ⊥
IsPlain _ = Unit {0}

abbrev pub IsPlainAct : Act → Type 0
IsPlainAct (Perform date files c) = AreRead files × IsPlain c
IsPlainAct _ = Unit {0}

-- ---- the laws: there is at most one answer

abbrev pub PtfinReadOnce : Type 0
PtfinReadOnce = (bytes : List ℕ) → IsReadOnce (IsPtfin bytes) (IsPtfinFault bytes)

abbrev pub HoldFileReadOnce : Type 0
HoldFileReadOnce = (bytes : List ℕ) → IsReadOnce (IsHoldFile bytes) (IsHoldFileFault bytes)

abbrev pub CommandFileReadOnce : Type 0
CommandFileReadOnce = (bytes : List ℕ) → IsReadOnce (IsCommandFile bytes) (IsCommandFileFault bytes)

abbrev pub StepOnce : Type 0
StepOnce = (s : State) (a : Act) → IsStorable s → HasActForms a → IsOnce Steps s a

abbrev pub JobOnce : Type 0
JobOnce =
    (s t u : State) (job : Job) (bytes others : List ℕ) (answer other : Answer) → IsStorable s → HasJobForms job
    → RunsJob s job t bytes answer → RunsJob s job u others other → (t ≡ u) × (bytes ≡ others) × (answer ≡ other)

abbrev pub JobsOnce : Type 0
JobsOnce =
    (jobs : List Job) (s t u : State) (bytes others : List ℕ) (answers more : List Answer) → IsStorable s
    → AllByRecursion HasJobForms jobs → RunsJobs s jobs t bytes answers → RunsJobs s jobs u others more
    → (t ≡ u) × (bytes ≡ others) × (answers ≡ more)

-- ---- and there is one; if a file is read or a set is decided, it can be refuted that there is none

abbrev pub PtfinRead : Type 0
PtfinRead = (bytes : List ℕ) → ¬ ¬ IsRead (IsPtfin bytes) (IsPtfinFault bytes)

abbrev pub HoldFileRead : Type 0
HoldFileRead = (bytes : List ℕ) → ¬ ¬ IsRead (IsHoldFile bytes) (IsHoldFileFault bytes)

abbrev pub CommandFileRead : Type 0
CommandFileRead = (bytes : List ℕ) → ¬ ¬ IsRead (IsCommandFile bytes) (IsCommandFileFault bytes)

abbrev pub PlainStepAnswered : Type 0
PlainStepAnswered =
    (s : State) (a : Act) → IsStorable s → HasActForms a → IsPlainAct a → IsAnswered Steps s a

-- What APPLY and ACCEPT decide leads to a zone.
abbrev pub DecisionInstalled : Type 0
DecisionInstalled =
    (g : Global) → IsGlobal g → All HasSysmodForms g.sysmods → (zone : Zone) → IsZone zone → HasZoneForms zone
    → (related : Option Zone) (sel : Selection) (bypass : Bypass) (date : Text) (d : Decision)
    → IsDecision g zone related sel bypass date d → (new : Zone) × HasInstalled d.installing new

abbrev pub StepAnswered : Type 0
StepAnswered = (s : State) (a : Act) → IsStorable s → HasActForms a → ¬ ¬ IsAnswered Steps s a

abbrev pub JobAnswered : Type 0
JobAnswered =
    (s : State) (job : Job) → IsStorable s → HasJobForms job
    → ¬ ¬ ((t : State) × (bytes : List ℕ) × (answer : Answer) × RunsJob s job t bytes answer)

abbrev pub JobsAnswered : Type 0
JobsAnswered =
    (jobs : List Job) (s : State) → IsStorable s → AllByRecursion HasJobForms jobs
    → ¬ ¬ ((t : State) × (bytes : List ℕ) × (answers : List Answer) × RunsJobs s jobs t bytes answers)
