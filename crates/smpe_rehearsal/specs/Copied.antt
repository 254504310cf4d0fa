-- What a service set would do in a copy of a database, or in an empty system.
use Rattle.std.specs.Prelude.{◌≡◌, ◌⊎◌, ℕ, false, max, List, [], ◌∷◌, ◌++◌, Result, Ok, Err, IsTrue, codes}
use Rattle.sqlite.specs.declared.error.Error.{Error}
use Rattle.sqlite.specs.Store.{Ghosts}
use Rattle.sqlite.specs.Files.{file_state, over_files, IsOpened}
use Rattle.sqlite.specs.Opening.{is_open_error}
use Rattle.sqlite.specs.Start.{FindsIn}
use Rattle.sqlite_disk.specs.declared.Disk as disk
use Rattle.sqlite_store.specs.declared.store.FileStore.{FileStore}
use Rattle.sqlite.specs.Held.{Held, state, IsNew}
use Rattle.sqlite.specs.State.{HasCleanDisk}
use Rattle.terms.specs.CommandForms.{no_bypass}
use Rattle.terms.specs.Types.{Text}
use Rattle.machine.specs.State.{State}
use Rattle.machine.specs.Machine as machine
use Rattle.machine.specs.Machine.{Files, RunFiles}
use Rattle.report.specs.declared.sink.Sink.{Ghosts as SinkGhosts}
use Rattle.store_schema.specs.declared.error.StoreError.{StoreError}
use Rattle.store_schema.specs.Known.{told}
use Rattle.store.specs.Loads.{Loads}
use Rattle.store.specs.View.{IsFound}
use Rattle.store.specs.Kept.{kept}
use Rattle.smpe_jobs.specs.declared.error.JobError.{JobError}
use Rattle.smpe_jobs.specs.Errors.{job_error}
use Rattle.smpe_jobs.specs.Ending.{EndsJobs, is_write}
use Rattle.smpe.specs.Going.{GoesJobs}
use Rattle.smpe_jobs.specs.ListJob.{two_records}
use Rattle.smpe_why.specs.Telling.{Inquiry, IsFoundIn}
use Rattle.smpe_why.specs.declared.found.LoadedZones.{LoadedZones}
use Rattle.smpe_rehearsal.specs.Opened.{IsStoreOver}
use Rattle.smpe_rehearsal.specs.ServiceSet.{FailsToMake, greatest, receive_records}
use Rattle.smpe_rehearsal.specs.Told.{TellsFound}

-- it is tried to apply all of it to the zone
abbrev pub apply_to : Text → List ℕ
apply_to zone =
    two_records (codes "SET BDY(" ++ zone ++ codes ").") (codes "APPLY FUNCTIONS PTFS GROUPEXTEND CHECK.")

-- The set is received, and the commands are run.
abbrev pub copy_jobs : Text → List ℕ → Files → List machine.Job
copy_jobs date cntl files = RunFiles date receive_records files ∷ RunFiles date cntl files ∷ []

-- the question about ids, each by itself and without BYPASS
abbrev pub plainly : List Text → Inquiry
plainly ids = record { ids = ids; together = false; groupextend = false; bypass = no_bypass }

-- this status, or what is told afterwards if that is greater
abbrev pub at_least : ℕ → Result ℕ JobError → Result ℕ JobError
at_least status (Ok told) = Ok (max status told)
at_least status (Err error) = Err error

module _ {S O : Type 0} (g : Ghosts S) (sink : SinkGhosts O) (zone : Text) where
  -- The zone is loaded from the store, and the facts about the ids are told.
  abbrev pub AsksStore : List Text → Held S → O → Result ℕ JobError → O → Type 0
  AsksStore ids store out r out' = (found : Result LoadedZones StoreError) × (after : Held S)
      × Loads g store after (IsFoundIn zone) found × TellsFound sink out out' (plainly ids) found r

  -- Nothing is asked if there are no ids.
  abbrev pub AsksIfAny : List Text → Held S → O → Result ℕ JobError → O → Type 0
  AsksIfAny [] store out r out' = (r ≡ Ok 0) × (out' ≡ out)
  AsksIfAny (id ∷ more) store out r out' = AsksStore (id ∷ more) store out r out'

  -- This is asked behind jobs that ended with these answers. The status is the greatest one.
  abbrev pub AsksAfter : Result (List machine.Answer) JobError → List Text → Held S → O → Result ℕ JobError → O → Type 0
  AsksAfter (Ok answers) ids store out r out' = (told : Result ℕ JobError) × AsksIfAny ids store out told out'
      × (r ≡ at_least (greatest answers) told)
  AsksAfter (Err error) ids store out r out' = (r ≡ Err error) × (out' ≡ out)

  -- The jobs ran over a store that began in this way, and then the ids were asked about. If the connection found a
  -- state, the jobs ran over that. The cause of a fault is since the connection was handed over.
  pub record TriedOver (ids : List Text) (jobs : List machine.Job) (conn begun : Held S) (out : O)
      (r : Result ℕ JobError) (out' : O) : Type 0 where
    pub store : Held S
    pub mid : O
    pub answers : Result (List machine.Answer) JobError
    pub ends : HasCleanDisk (state g store) → (s : State) → IsFound g conn (kept s)
        → EndsJobs g conn store s jobs (sink.taken out) (sink.taken mid) (λ all. all) answers
    pub goes : GoesJobs g begun store jobs (sink.taken out) (sink.taken mid) (λ all. all) answers
    pub fault : sink.has_failed out ≡ false → sink.has_failed mid ≡ is_write answers
    pub asks : AsksAfter answers ids store mid r out'

  -- The connection became a store, and this was tried over it; or it did not, and nothing was printed.
  abbrev pub TriesOver : List Text → List machine.Job → Held S → O → Result ℕ JobError → O → Type 0
  TriesOver ids jobs conn out r out' = FailsToMake g conn out r out'
      ⊎ ((begun : Held S) × IsStoreOver g conn begun × TriedOver ids jobs conn begun out r out')

-- The connection shows what files with these bytes hold: a database's file, and its log. They lie in memory.
pub record IsCopy {M : Type 0} {m : disk.Ghosts M} (db log : List ℕ) (conn : Held (FileStore M m)) : Type 0 where
  pub fresh : IsNew conn
  pub opened : HasCleanDisk (file_state conn) → IsOpened conn
  pub found : HasCleanDisk (file_state conn) → FindsIn (record { log = log; db = db }) (file_state conn)

-- The jobs were tried over such a copy, or the copy was not opened, and nothing was printed.
abbrev pub TriesBytes : {M O : Type 0} → disk.Ghosts M → SinkGhosts O → Text → List Text → List ℕ → List ℕ
    → List machine.Job → O → Result ℕ JobError → O → Type 0
TriesBytes {M} memory sink zone ids db log jobs out r out' =
    ((error : Error) × IsTrue (is_open_error error) × (r ≡ Err (job_error (told error))) × (out' ≡ out))
    ⊎ ((conn : Held (FileStore M memory)) × IsCopy db log conn
    × TriesOver over_files sink zone ids jobs conn out r out')
