-- How jobs end: the headline of the product.
use Rattle.std.specs.Prelude.{◌≡◌, ℕ, Bool, true, false, List, [], ◌∷◌, Option, Result, Ok, Err, IsTrue}
use Rattle.std.specs.Io.KnownBytes.{Appends}
use Rattle.sqlite.specs.Store.{Ghosts}
use Rattle.sqlite.specs.Held.{Held, state}
use Rattle.sqlite.specs.Schema.{Schema}
use Rattle.sqlite.specs.State.{HasCleanDisk}
use Rattle.sqlite.specs.Tree.{Trees}
use Rattle.terms.specs.Closed.{AreClosed}
use Rattle.machine.specs.State.{State}
use Rattle.machine.specs.Machine as machine
use Rattle.machine.specs.Machine.{Act, Steps, RunsJob, RunsJobs, AreFirstActs}
use Rattle.store_schema.specs.declared.error.StoreError.TheVariants as store
use Rattle.store_schema.specs.Inventory.{Inventory}
use Rattle.store_schema.specs.Stands.{StandsFor}
use Rattle.smpe_jobs.specs.ZoneDefinitions.{definition, fault_of}
use Rattle.store.specs.CallEnds.{StillKeeps, FailsAct}
use Rattle.store.specs.Kept.{Keeps, IsAfter}
use Rattle.smpe_jobs.specs.Course.{Course, Unreported, AtNext}
use Rattle.smpe_jobs.specs.declared.error.JobError.{JobError}
use Rattle.smpe_jobs.specs.declared.error.JobError.TheVariants.{Memory, Store, Write}
use Rattle.smpe_jobs.specs.declared.jobs.Job.{Job}
use Rattle.smpe_jobs.specs.declared.jobs.Job.TheVariants.{Run, Zone}
use Rattle.smpe_jobs.specs.declared.jobs.Answer.{Answer}
use Rattle.smpe_jobs.specs.declared.jobs.Answer.TheVariants.{Code, Defined, Refused}

-- the code's jobs and answers, as the machine has them
abbrev pub job_of : Job → machine.Job
job_of (Run date cntl ptfin hold) = machine.RunFiles date cntl.now (record { ptfin = ptfin.now; holds = hold.now })
job_of (Zone name kind srel related) = machine.NewZone (definition name kind srel related)

abbrev pub answer_of : Answer → machine.Answer
answer_of (Code n) = machine.Code n
answer_of Defined = machine.Defined
answer_of (Refused why) = machine.NotDefined (fault_of why)

abbrev pub is_write : {X : Type 0} → Result X JobError → Bool
is_write (Err Write) = true
is_write _ = false

-- whether the result says that a report could not be written, if the sink had not failed before
abbrev pub TellsOfSink : Bool → Bool → {X : Type 0} → Result X JobError → Type 0
TellsOfSink before after result = before ≡ false → after ≡ is_write result

-- All zones are closed in each inventory for which the tables stand, and in each for which they stand after a crash.
pub record StaysClosed {S : Type 0} (g : Ghosts S) (at : Held S) : Type 0 where
  pub now : (i : Inventory) → IsTrue (state g at).is_open → StandsFor i (state g at).committed
      → AreClosed i.global i.zones
  pub crash : (db : Trees) → (state g at).may_leave db → (schema : Schema) (i : Inventory)
      → StandsFor i (record { schema = schema; trees = db }) → AreClosed i.global i.zones

-- If the tables stood for a state whose zones are closed, they stay so.
abbrev pub KeepsClosed : {S : Type 0} → Ghosts S → Held S → Held S → Type 0
KeepsClosed g old new =
    HasCleanDisk (state g new) → (s : State) → Keeps g old s → AreClosed s.global s.zones → StaysClosed g new

-- what is kept of a state to which the next of these acts leads
abbrev pub IsAfterNext : State → List Act → Inventory → Type 0
IsAfterNext s [] c = ⊥
IsAfterNext s (next ∷ rest) c = IsAfter s next c

-- A call began at the store `began`, and left the store as it is now.
module _ {S : Type 0} (g : Ghosts S) (began at : Held S) where
  module _ (new : Option (List ℕ)) where
    -- The act met a fault: it had no effect, except that a crash may leave one, and no report. The cause is of this
    -- call, and of this act.
    abbrev pub Faulted : State → Option (List ℕ) → Act → Type 0
    Faulted before had act = FailsAct g began at before act store.Fault × (had ≡ new)

    -- The call ended by this error: because memory ran out, at the next act, if there was one, or before that began; by
    -- a fault of the store that the next act met; or by a fault of the sink. If the connection is still open, the store
    -- keeps the result of the acts that ran, and the caller may go on from there.
    abbrev pub EndsLast : JobError → State → Option (List ℕ) → List Act → Type 0
    EndsLast Memory before had rest = StillKeeps g at before (IsAfterNext before rest) × (had ≡ new)
    EndsLast (Store store.Fault) before had rest = AtNext Faulted before had rest
    EndsLast (Store _) before had rest = ⊥
    EndsLast Write before had rest = AtNext (Unreported Steps (Keeps g at) new) before had rest

-- It found the tables standing for s. The sink had taken `old`, and now has `new`.
module _ {S : Type 0} (g : Ghosts S) (began at : Held S) (s : State) where
  -- The call could not go on to the end of these acts.
  abbrev pub EndsEarly : List Act → Option (List ℕ) → Option (List ℕ) → JobError → Type 0
  EndsEarly acts old new error = Course Steps (EndsLast g began at new error) s acts old

  -- the same of these jobs: the acts are those of the first ones
  abbrev pub EndsAmong : List machine.Job → Option (List ℕ) → Option (List ℕ) → JobError → Type 0
  EndsAmong jobs old new error = (acts : List Act) × AreFirstActs jobs acts × EndsEarly acts old new error

  -- The job ran, and this is its answer: the tables stand for its result, a crash leaves that, and its bytes went out.
  abbrev pub EndsJob : machine.Job → Option (List ℕ) → Option (List ℕ) → {V : Type 0} → (V → machine.Answer)
      → Result V JobError → Type 0
  EndsJob job old new answer (Ok v) =
      (t : State) × (bytes : List ℕ) × RunsJob s job t bytes (answer v) × Keeps g at t × Appends old new bytes
  EndsJob job old new answer (Err error) = EndsAmong (job ∷ []) old new error

  -- All jobs ran one after the other, and these are their answers.
  abbrev pub EndsJobs : List machine.Job → Option (List ℕ) → Option (List ℕ) → {V : Type 0} → (V → List machine.Answer)
      → Result V JobError → Type 0
  EndsJobs jobs old new answers (Ok v) =
      (t : State) × (bytes : List ℕ) × RunsJobs s jobs t bytes (answers v) × Keeps g at t × Appends old new bytes
  EndsJobs jobs old new answers (Err error) = EndsAmong jobs old new error
