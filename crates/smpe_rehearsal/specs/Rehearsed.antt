-- The zones of a system after RECEIVE of a package.
use Rattle.std.specs.Prelude.{◌≡◌, ◌⊎◌, ℕ, List, [], ◌∷◌, None, Some, Result, Ok, Err, IsTrue, codes}
use Rattle.sqlite.specs.declared.error.Error.{Error}
use Rattle.sqlite.specs.Store.{Ghosts}
use Rattle.sqlite.specs.Files.{over_files}
use Rattle.sqlite.specs.Held.{Held, state, IsNew}
use Rattle.sqlite.specs.Opening.{is_open_error}
use Rattle.sqlite.specs.State.{HasCleanDisk}
use Rattle.sqlite.specs.Steps.{over_memory, IsEmpty}
use Rattle.sqlite_disk.specs.declared.Disk as disk
use Rattle.sqlite_store.specs.declared.store.FileStore.{FileStore}
use Rattle.sqlite_trees.specs.declared.memory.MemStore.{MemStore}
use Rattle.terms.specs.declared.kinds.ZoneKind.TheVariants.{Target, Distribution}
use Rattle.terms.specs.Types.{Text}
use Rattle.machine.specs.State.{State}
use Rattle.machine.specs.Machine as machine
use Rattle.machine.specs.Machine.{Files, NewZone, RunFiles}
use Rattle.store_schema.specs.declared.error.StoreError.{StoreError}
use Rattle.store_schema.specs.Known.{told}
use Rattle.store.specs.Loads.{Loads}
use Rattle.store.specs.View.{IsFound}
use Rattle.store.specs.Kept.{kept}
use Rattle.smpe_jobs.specs.declared.error.JobError.{JobError}
use Rattle.smpe_jobs.specs.declared.error.JobError.TheVariants.{Memory}
use Rattle.smpe_jobs.specs.Errors.{job_error}
use Rattle.smpe_jobs.specs.Ending.{EndsJobs}
use Rattle.smpe_jobs.specs.ZoneDefinitions.{definition}
use Rattle.smpe.specs.Going.{GoesJobs}
use Rattle.smpe_why.specs.Telling.{IsFoundIn}
use Rattle.smpe_why.specs.declared.found.LoadedZones.{LoadedZones}
use Rattle.smpe_rehearsal.specs.declared.values.Prepared.{Prepared}
use Rattle.smpe_rehearsal.specs.declared.values.System.{System}
use Rattle.smpe_rehearsal.specs.declared.values.System.TheVariants.{Empty, Copied}
use Rattle.smpe_rehearsal.specs.declared.receiving.Rehearsed.{Rehearsed}
use Rattle.smpe_rehearsal.specs.Asking.{files_of}
use Rattle.smpe_rehearsal.specs.Copied.{IsCopy}
use Rattle.smpe_rehearsal.specs.Opened.{IsStoreOver}
use Rattle.smpe_rehearsal.specs.ServiceSet.{Unmade, greatest, receive_records}

-- the zones that were loaded, with the status of RECEIVE, or the error of the store as one of the job
abbrev pub rehearsed : ℕ → Result LoadedZones StoreError → Result Rehearsed JobError
rehearsed status (Ok zones) = Ok (record { zones = zones; status = status })
rehearsed status (Err why) = Err (job_error why)

-- The package is received; in an empty system after two zones of the SREL are defined.
abbrev pub receive_job : Text → Files → machine.Job
receive_job date files = RunFiles date receive_records files

abbrev pub new_jobs : Text → Text → Files → List machine.Job
new_jobs srel date files =
    NewZone (definition (codes "DLIB") Distribution srel None)
    ∷ NewZone (definition (codes "TGT") Target srel (Some (codes "DLIB"))) ∷ receive_job date files ∷ []

module _ {S : Type 0} (g : Ghosts S) (name : Text) where
  -- After jobs that ended with these answers, the zones were loaded. If the jobs failed, nothing was.
  abbrev pub LoadsAfter : Result (List machine.Answer) JobError → Held S → Result Rehearsed JobError → Type 0
  LoadsAfter (Err error) store r = r ≡ Err error
  LoadsAfter (Ok answers) store r = (found : Result LoadedZones StoreError) × (left : Held S)
      × Loads g store left (IsFoundIn name) found × (r ≡ rehearsed (greatest answers) found)

  -- The jobs ran over a store that began in this way, and their report went nowhere. If the connection found a state,
  -- they ran over that. Then the zones were loaded.
  pub record RehearsedOver (jobs : List machine.Job) (conn begun : Held S) (r : Result Rehearsed JobError) : Type 0
    where
      pub store : Held S
      pub answers : Result (List machine.Answer) JobError
      pub ends : HasCleanDisk (state g store) → (s : State) → IsFound g conn (kept s)
          → EndsJobs g conn store s jobs None None (λ all. all) answers
      pub goes : GoesJobs g begun store jobs None None (λ all. all) answers
      pub loads : LoadsAfter answers store r

  -- The connection became a store, and this was rehearsed over it; or it did not.
  abbrev pub RehearsesOver : List machine.Job → Held S → Result Rehearsed JobError → Type 0
  RehearsesOver jobs conn r = ((why : StoreError) × Unmade g conn why × (r ≡ Err (job_error why)))
      ⊎ ((begun : Held S) × IsStoreOver g conn begun × RehearsedOver jobs conn begun r)

-- So a job over a copy in memory of files with these bytes, or the copy was not opened.
abbrev pub RehearsesBytes : {M : Type 0} → disk.Ghosts M → List ℕ → List ℕ → Text → machine.Job
    → Result Rehearsed JobError → Type 0
RehearsesBytes {M} memory db log zone job r =
    ((error : Error) × IsTrue (is_open_error error) × (r ≡ Err (job_error (told error))))
    ⊎ ((conn : Held (FileStore M memory)) × IsCopy db log conn × RehearsesOver over_files zone (job ∷ []) conn r)

-- So jobs over a new connection in memory, or memory ran out for it.
abbrev pub RehearsesNew : List machine.Job → Result Rehearsed JobError → Type 0
RehearsesNew jobs r = (r ≡ Err Memory)
    ⊎ ((conn : Held MemStore) × IsNew conn × IsEmpty (state over_memory conn)
    × RehearsesOver over_memory (codes "TGT") jobs conn r)

-- The package was received in the system, on any date, and these are the zones afterwards.
abbrev pub Rehearses : {M : Type 0} → disk.Ghosts M → System → Prepared → Result Rehearsed JobError → Type 0
Rehearses memory (Empty srel) p r = (date : Text) × RehearsesNew (new_jobs srel date (files_of p)) r
Rehearses memory (Copied bytes zone) p r = (date : Text)
    × RehearsesBytes memory bytes.db.items bytes.log.items zone (receive_job date (files_of p)) r
