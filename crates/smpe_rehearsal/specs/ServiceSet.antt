-- What a service set would do in an empty system.
use Rattle.std.specs.Prelude.{◌≡◌, ◌⊎◌, ℕ, max, List, [], ◌∷◌, Option, Some, None, Result, Ok, Err, codes}
use Rattle.sqlite.specs.Store.{Ghosts}
use Rattle.sqlite.specs.Held.{Held, state, IsNew}
use Rattle.sqlite.specs.State.{HasCleanDisk}
use Rattle.sqlite.specs.Steps.{over_memory, IsEmpty}
use Rattle.sqlite_trees.specs.declared.memory.MemStore.{MemStore}
use Rattle.terms.specs.Types.{Text}
use Rattle.terms.specs.declared.kinds.ZoneKind.TheVariants.{Target, Distribution}
use Rattle.machine.specs.Machine as machine
use Rattle.machine.specs.Machine.{Files, NewZone, RunFiles}
use Rattle.report.specs.declared.sink.Sink.{Ghosts as SinkGhosts}
use Rattle.store_schema.specs.declared.error.StoreError.{StoreError}
use Rattle.store_schema.specs.declared.error.StoreError.TheVariants.{OtherSchema, NoState}
use Rattle.store_schema.specs.Known.{HasOtherNumber, HasNoState}
use Rattle.store.specs.View.{IsFound}
use Rattle.smpe_invocation.specs.declared.asked.CommandJob.{CommandJob}
use Rattle.smpe_jobs.specs.ZoneDefinitions.{definition}
use Rattle.store.specs.Kept.{kept}
use Rattle.smpe_jobs.specs.declared.error.JobError.{JobError}
use Rattle.smpe_jobs.specs.declared.error.JobError.TheVariants.{Memory}
use Rattle.smpe_jobs.specs.Errors.{job_error}
use Rattle.smpe_jobs.specs.Ending.{EndsJobs, TellsOfSink}
use Rattle.smpe_jobs.specs.FromEmpty.{empty_system}
use Rattle.smpe_jobs.specs.ListJob.{two_records}
use Rattle.smpe_jobs.specs.Messages.{answer_status}

-- all of the set is received
abbrev pub receive_records : List ℕ
receive_records = two_records (codes "SET BDY(GLOBAL).") (codes "RECEIVE.")

-- and it is tried to apply all of it
abbrev pub apply_records : List ℕ
apply_records = two_records (codes "SET BDY(TGT).") (codes "APPLY FUNCTIONS PTFS GROUPEXTEND CHECK.")

-- A distribution zone and a target zone of the SREL are defined, the set is received, and the commands are run.
abbrev pub set_jobs : Text → Text → List ℕ → Files → List machine.Job
set_jobs srel date cntl files =
    NewZone (definition (codes "DLIB") Distribution srel None)
    ∷ NewZone (definition (codes "TGT") Target srel (Some (codes "DLIB")))
    ∷ RunFiles date receive_records files ∷ RunFiles date cntl files ∷ []

-- the greatest status of these answers
abbrev pub greatest : List machine.Answer → ℕ
greatest [] = 0
greatest (answer ∷ more) = max (answer_status answer) (greatest more)

abbrev pub greatest_told : Result (List machine.Answer) JobError → Result ℕ JobError
greatest_told (Ok answers) = Ok (greatest answers)
greatest_told (Err error) = Err error

-- the commands that a service set is tried with: those of the file, or these, which try to apply all of it
abbrev pub tried_with : List ℕ → Option CommandJob → List ℕ → List ℕ
tried_with all None cntl = all
tried_with all (Some commands) cntl = cntl

-- and on which date: without a file, nothing that is printed has it
abbrev pub IsTriedOn : Option CommandJob → Text → Type 0
IsTriedOn None date = Unit {0}
IsTriedOn (Some commands) date = date ≡ commands.date

module _ {S : Type 0} (g : Ghosts S) (conn : Held S) where
  -- The connection did not create the tables, for this reason. Only one that already has other tables reports another
  -- schema, or no state.
  pub record Unmade (why : StoreError) : Type 0 where
    pub left : Held S
    pub other : HasCleanDisk (state g left) → why ≡ OtherSchema → HasOtherNumber (state g conn)
    pub none : HasCleanDisk (state g left) → why ≡ NoState → HasNoState (state g conn)

  -- It failed in this way, and printed nothing.
  abbrev pub FailsToMake : {O : Type 0} → O → {V : Type 0} → Result V JobError → O → Type 0
  FailsToMake out r out' = (why : StoreError) × Unmade why × (r ≡ Err (job_error why)) × (out' ≡ out)

  -- The connection created the tables, or it did not. If it found an empty system, the jobs ran over that. The cause of
  -- a fault is since the connection was handed over. The error `Write` says that the sink has failed.
  abbrev pub JobsOverNew : {O : Type 0} → SinkGhosts O → List machine.Job → O → {V : Type 0}
      → (V → List machine.Answer) → Result V JobError → O → Type 0
  JobsOverNew sink jobs out answers r out' = FailsToMake out r out'
      ⊎ ((store : Held S) × (HasCleanDisk (state g store) → IsFound g conn (kept empty_system)
      → EndsJobs g conn store empty_system jobs (sink.taken out) (sink.taken out') answers r)
      × TellsOfSink (sink.has_failed out) (sink.has_failed out') r)

-- The jobs ran over an empty system in memory, by a new connection without a limit on steps, and the error `Write` says
-- that the sink has failed. Or its tables were not created, or memory ran out for it, and nothing was printed.
abbrev pub JobsInMemory : {O : Type 0} → SinkGhosts O → List machine.Job → O → {V : Type 0}
    → (V → List machine.Answer) → Result V JobError → O → Type 0
JobsInMemory sink jobs out answers r out' = ((r ≡ Err Memory) × (out' ≡ out))
    ⊎ ((conn : Held MemStore) × IsNew conn × IsEmpty (state over_memory conn)
    × (FailsToMake over_memory conn out r out'
    ⊎ ((store : Held MemStore)
    × EndsJobs over_memory conn store empty_system jobs (sink.taken out) (sink.taken out') answers r
    × TellsOfSink (sink.has_failed out) (sink.has_failed out') r)))

module _ {O : Type 0} (sink : SinkGhosts O) (out : O) (srel : Text) where
  -- The jobs of a service set with these commands ran over an empty system in memory, or memory ran out for the command
  -- that receives it.
  abbrev pub TriesWith : Text → List ℕ → Files → {V : Type 0} → (V → List machine.Answer) → Result V JobError → O
      → Type 0
  TriesWith date cntl files answers r out' = ((r ≡ Err Memory) × (out' ≡ out))
      ⊎ JobsInMemory sink (set_jobs srel date cntl files) out answers r out'

  -- A service set is tried with the commands that were given, on their date, or with those that apply all of it, on any
  -- date.
  abbrev pub TriesSet : Option CommandJob → List ℕ → Files → {V : Type 0} → (V → List machine.Answer)
      → Result V JobError → O → Type 0
  TriesSet commands cntl files answers r out' = ((r ≡ Err Memory) × (out' ≡ out))
      ⊎ ((date : Text) × IsTriedOn commands date
      × TriesWith date (tried_with apply_records commands cntl) files answers r out')

  -- It is tried, and the status is the greatest one.
  abbrev pub ChecksSet : Option CommandJob → List ℕ → Files → Result ℕ JobError → O → Type 0
  ChecksSet commands cntl files r out' = (answers : Result (List machine.Answer) JobError)
      × TriesSet commands cntl files (λ all. all) answers out' × (r ≡ greatest_told answers)
