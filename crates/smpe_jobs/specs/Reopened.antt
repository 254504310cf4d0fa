-- What the next open of a database finds after jobs that ended early, and from where a caller goes on.
use Rattle.std.specs.Prelude.{◌≡◌, ◌⊎◌, ℕ, List, Option}
use Rattle.sqlite.specs.Store.{Ghosts}
use Rattle.sqlite.specs.Held.{Held, state}
use Rattle.sqlite.specs.State.{HasCleanDisk}
use Rattle.machine.specs.State.{State}
use Rattle.machine.specs.Machine.{Act, Job, Steps, AreFirstActs}
use Rattle.machine.specs.Runs.{Stands}
use Rattle.store_schema.specs.declared.error.StoreError.TheVariants as store
use Rattle.store_schema.specs.Inventory.{Inventory}
use Rattle.store_schema.specs.Stands.{StandsFor}
use Rattle.store.specs.Kept.{kept, Keeps}
use Rattle.store.specs.View.{Tables, Leaves, ShowsLeft}
use Rattle.smpe_jobs.specs.declared.error.JobError.{JobError}
use Rattle.smpe_jobs.specs.declared.error.JobError.TheVariants.{Memory, Store, Write}
use Rattle.smpe_jobs.specs.Course.{Course, Unreported, AtNext}
use Rattle.smpe_jobs.specs.Ending.{EndsAmong, IsAfterNext}

module _ {T : Type 0} (h : Ghosts T) (again : Held T) where
  -- what the connection shows stands for one of these
  abbrev pub ShowsOne : (Inventory → Type 0) → Type 0
  ShowsOne Among = (c : Inventory) × Among c × StandsFor c (state h again).committed

  -- the tables stand for one of these, and a crash leaves it
  abbrev pub KeepsOne : (Inventory → Type 0) → Type 0
  KeepsOne Among = (c : Inventory) × Among c × Stands (Tables h again) (Leaves h again) c

-- `One` says about some inventories that one of them is found.
module _ (One : (Inventory → Type 0) → Type 0) where
  -- The call ended by this error, and what is found is the result of the acts that ran, or of one act more. After a
  -- fault of the sink, the next act ran, and what is found is its result.
  abbrev pub FindsLast : Option (List ℕ) → JobError → State → Option (List ℕ) → List Act → Type 0
  FindsLast new Memory before had rest = One (λ c. (c ≡ kept before) ⊎ IsAfterNext before rest c) × (had ≡ new)
  FindsLast new (Store store.Fault) before had rest =
      One (λ c. (c ≡ kept before) ⊎ IsAfterNext before rest c) × (had ≡ new)
  FindsLast new (Store _) before had rest = ⊥
  FindsLast new Write before had rest = AtNext (Unreported Steps (λ t. One (λ c. c ≡ kept t)) new) before had rest

  abbrev pub FindsEarly : State → List Act → Option (List ℕ) → Option (List ℕ) → JobError → Type 0
  FindsEarly s acts old new error = Course Steps (FindsLast new error) s acts old

  -- the same of these jobs: the acts are those of the first ones
  abbrev pub FindsAmong : State → List Job → Option (List ℕ) → Option (List ℕ) → JobError → Type 0
  FindsAmong s jobs old new error = (acts : List Act) × AreFirstActs jobs acts × FindsEarly s acts old new error

-- After jobs that ended early, whether or not a fault shut the connection, the next open finds the state of the
-- commands that were reported, or that of one command more.
abbrev pub NextOpenFinds : {S T : Type 0} → Ghosts S → Ghosts T → Type 0
NextOpenFinds {S} {T} g h =
    (began at : Held S) (again : Held T) (s : State) (jobs : List Job) (old new : Option (List ℕ)) (error : JobError)
    → EndsAmong g began at s jobs old new error → ShowsLeft g at h again
    → ∥ FindsAmong (ShowsOne h again) s jobs old new error ∥₁

-- The store was opened again after what jobs had left of the first connection, and a caller may go on with it. It keeps
-- the state that the first one kept. After jobs that ended early, whether or not a fault shut the connection, it keeps
-- the state of the commands that were reported, or that of one command more. A load tells which of them it is.
pub record MayGoOn {S T : Type 0} (g : Ghosts S) (at : Held S) (h : Ghosts T) (again : Held T) : Type 0 where
  pub clean : HasCleanDisk (state g at)
  pub same : (s : State) → Keeps g at s → ∥ Keeps h again s ∥₁
  pub early : (began : Held S) (s : State) (jobs : List Job) (old new : Option (List ℕ)) (error : JobError)
      → EndsAmong g began at s jobs old new error → ∥ FindsAmong (KeepsOne h again) s jobs old new error ∥₁
