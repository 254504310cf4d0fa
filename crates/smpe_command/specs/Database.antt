-- A job over the database of a name, and what is asked about it.
use Rattle.std.specs.declared.alloc.Global.{Global as AnyGlobal}
use Rattle.std.specs.Prelude.{◌≡◌, ◌⊎◌, List, [], ◌∷◌, false, map, IsTrue, IfOk, Result, Ok, Err, Vec}
use Rattle.sqlite.specs.declared.error.Error.{Error}
use Rattle.sqlite.specs.Store.{Ghosts}
use Rattle.sqlite.specs.Held.{Held, state}
use Rattle.sqlite.specs.State.{HasCleanDisk, Survives}
use Rattle.terms.specs.Types.{Text}
use Rattle.terms.specs.Closed.{AreClosed}
use Rattle.machine.specs.State.{State}
use Rattle.machine.specs.Machine as machine
use Rattle.report.specs.declared.sink.Sink.{Ghosts as SinkGhosts}
use Rattle.store_schema.specs.declared.error.StoreError.{StoreError}
use Rattle.store_schema.specs.declared.error.StoreError.TheVariants.{OtherSchema, NoState}
use Rattle.store_schema.specs.Inventory.{Inventory}
use Rattle.store_schema.specs.Known.{HasOtherNumber, HasNoState, told}
use Rattle.store_schema.specs.Stands.{IsSetUp}
use Rattle.store.specs.BadRows.{TellsNoState}
use Rattle.store.specs.Going.{LoadsAlone}
use Rattle.store.specs.CallEnds.{EndsLoad}
use Rattle.store.specs.Kept.{kept}
use Rattle.store_migration.specs.Migrated.{HasRowids, Migrated, Unmigrated}
use Rattle.store.specs.View.{LeavesFound, IsFound}
use Rattle.smpe_verify.specs.Verified.{verification, StandsIfClosed}
use Rattle.smpe_verify.specs.declared.verification.Verification.{Verification}
use Rattle.smpe_why.specs.Telling.{IsFoundIn}
use Rattle.smpe_why.specs.declared.found.LoadedZones.{LoadedZones}
use Rattle.smpe_jobs.specs.declared.error.JobError.{JobError}
use Rattle.smpe_jobs.specs.declared.jobs.Answer.{Answer}
use Rattle.smpe_jobs.specs.Errors.{job_error}
use Rattle.smpe_jobs.specs.Ending.{EndsJobs, StaysClosed, answer_of, is_write}
use Rattle.smpe.specs.Going.{GoesJobs}
use Rattle.smpe_rehearsal.specs.Opened.{IsStoreOver}
use Rattle.smpe_command.specs.declared.host.Host.{Ghosts as HostGhosts}

module _ {H D : Type 0} (host : HostGhosts H D) (g : Ghosts D) where
  -- The database could not be made the store's, for this reason, and was closed. It was left in this way: what was last
  -- committed is as before, and a crash leaves that, or the tables that were created in a database that had none.
  pub record Unready (opened : H) (conn : Held D) (why : StoreError) (after : H) : Type 0 where
    pub left : Held D
    pub other : HasCleanDisk (state g left) → why ≡ OtherSchema → HasOtherNumber (state g conn)
    pub none : HasCleanDisk (state g left) → why ≡ NoState → HasNoState (state g conn)
    pub same : HasCleanDisk (state g left) → IsTrue (state g left).is_open
        → (state g left).committed ≡ (state g conn).committed
    pub found : IsTrue (state g conn).is_open → (i : Inventory) → IsFound g conn i → LeavesFound g left i
    pub crash : Survives (state g conn) (state g left) (IsSetUp (state g conn).now)
    pub mode : left.in_transaction ≡ false
    pub closes : host.closes opened left after

  -- No store is made of the database of this name, for this reason: it was not opened, or was opened and closed.
  abbrev pub FailsToOpen : H → Text → StoreError → H → Type 0
  FailsToOpen h db why after = ((error : Error) × host.refuses h db error after × (why ≡ told error))
      ⊎ ((conn : Held D) × (opened : H) × host.opens h db conn opened × Unready opened conn why after)

  -- The database of this name was opened, and its connection became this store.
  pub record Opens (h : H) (db : Text) (store : Held D) (after : H) : Type 0 where
    pub conn : Held D
    pub opens : host.opens h db conn after
    pub over : IsStoreOver g conn store

  -- The database of this name was opened, a job ended in this way over each state for which it was found to stand, and
  -- it was closed. The cause of a fault is since the opening. Zones that were closed stay so. Whatever the tables hold,
  -- the job went in this way from the store that was opened.
  pub record Works (h : H) (db : Text) (Ends : Held D → Held D → State → Type 0) (Goes : Held D → Held D → Type 0)
      (after : H) : Type 0 where
    pub begun : Held D
    pub opened : H
    pub opens : Opens h db begun opened
    pub store : Held D
    pub ends : HasCleanDisk (state g store) → (s : State) → IsFound g opens.conn (kept s) → Ends opens.conn store s
    pub closed : HasCleanDisk (state g store) → (s : State) → IsFound g opens.conn (kept s)
        → AreClosed s.global s.zones → StaysClosed g store
    pub goes : Goes begun store
    pub closes : host.closes opened store after

  -- The jobs ran over the database of this name in this way, from the first one on, or it was not opened. These are
  -- their answers.
  abbrev pub JobsOver : {O : Type 0} → SinkGhosts O → H → Text → List machine.Job → O → {V : Type 0}
      → (V → List machine.Answer) → Result V JobError → H → O → Type 0
  JobsOver sink h db jobs out answers r after out' =
      ((why : StoreError) × FailsToOpen h db why after × (r ≡ Err (job_error why)) × (out' ≡ out))
      ⊎ (Works h db
      (λ conn store s. EndsJobs g conn store s jobs (sink.taken out) (sink.taken out') answers r)
      (λ begun store. GoesJobs g begun store jobs (sink.taken out) (sink.taken out') answers r) after
      × (sink.has_failed out ≡ false → sink.has_failed out' ≡ is_write r))

  -- so one job, with its answer
  abbrev pub JobOver : {O : Type 0} → SinkGhosts O → H → Text → machine.Job → O → Result Answer JobError → H → O
      → Type 0
  JobOver sink h db job out r after out' =
      JobsOver sink h db (job ∷ []) out (λ answer. answer_of answer ∷ []) r after out'

  -- The database of this name was opened, and this was found over each state for which it was found to stand. Whatever
  -- the tables hold, the call has only loaded; and if it reports no state, there is none. Or the database was not
  -- opened.
  abbrev pub LoadsOver : {X : Type 0} → (Inventory → X → Type 0) → H → Text → Result X StoreError → H → Type 0
  LoadsOver Found h db r after = ((why : StoreError) × FailsToOpen h db why after × (r ≡ Err why))
      ⊎ Works h db (λ conn store s. EndsLoad g conn store s (Found (kept s)) r)
      (λ begun store. LoadsAlone g begun store r × TellsNoState g begun store r) after

  -- the global zone and the zone of a name
  abbrev pub FoundOver : H → Text → Text → Result LoadedZones StoreError → H → Type 0
  FoundOver h db name r after = LoadsOver (IsFoundIn name) h db r after

  -- the names of all zones
  abbrev pub NamesOver : H → Text → Result (Vec Text AnyGlobal) StoreError → H → Type 0
  NamesOver h db r after = LoadsOver (λ i names. names.items ≡ map (λ z. z.name) i.zones) h db r after

  -- Whether all zones are closed, or which is the first that is not. Whatever the tables hold, the answer that all are
  -- closed says that the tables stand for a state.
  abbrev pub VerifiedOver : H → Text → Result Verification StoreError → H → Type 0
  VerifiedOver h db r after = ((why : StoreError) × FailsToOpen h db why after × (r ≡ Err why))
      ⊎ Works h db (λ conn store s. EndsLoad g conn store s (λ found. found ≡ verification (kept s)) r)
      (λ begun store. LoadsAlone g begun store r × TellsNoState g begun store r
      × (HasCleanDisk (state g store) → HasRowids (state g begun).now → IfOk r (StandsIfClosed g begun))) after

  -- The database of this name was opened, migrated to the store's schema or left as it was, and closed; or it was not
  -- opened.
  abbrev pub MigratesOver : H → Text → Result (Unit {0}) StoreError → H → Type 0
  MigratesOver h db (Ok done) after =
      (conn store : Held D) × (opened : H) × host.opens h db conn opened × Migrated g conn store
      × host.closes opened store after
  MigratesOver h db (Err why) after = ((error : Error) × host.refuses h db error after × (why ≡ told error))
      ⊎ ((conn left : Held D) × (opened : H) × host.opens h db conn opened × Unmigrated g conn left why
      × host.closes opened left after)
