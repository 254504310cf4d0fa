-- Every list of jobs leads from an empty system to closed zones.
use Rattle.std.specs.Prelude.{◌≡◌, ℕ, List, [], Option, None, Result, IsTrue}
use Rattle.std.specs.List.{AllByRecursion}
use Rattle.sqlite.specs.Store.{Ghosts}
use Rattle.sqlite.specs.Held.{Held, state}
use Rattle.sqlite.specs.State.{HasCleanDisk}
use Rattle.machine.specs.State.{State}
use Rattle.machine.specs.Machine.{Answer, Job}
use Rattle.machine_laws.specs.Storable.{HasJobForms}
use Rattle.store_schema.specs.Create.{IsBlank}
use Rattle.store_schema.specs.Inventory.{Inventory}
use Rattle.store.specs.View.{Tables, IsFound, Leaves}
use Rattle.smpe_jobs.specs.declared.error.JobError.{JobError}
use Rattle.smpe_jobs.specs.Ending.{EndsJobs, StaysClosed}

-- nothing is received, and there is no zone
abbrev pub empty_system : State
empty_system = record { global = record { sysmods = []; holds = [] }; zones = []; boundary = None }

-- The connection found no tables and views, and this is the store that was opened over it: what its tables stand for,
-- and what a crash leaves, is what was found.
pub record IsNewStore {S : Type 0} (g : Ghosts S) (conn store : Held S) : Type 0 where
  pub blank : HasCleanDisk (state g conn) → IsTrue (state g conn).is_open → IsBlank (state g conn).committed
  pub tables : (i : Inventory) → IsFound g conn i → Tables g store i
  pub leaves : (i : Inventory) → IsFound g conn i → Leaves g store (λ c. c ≡ i)

-- Jobs with dates, names and SRELs of their forms were run over such a store, to their end or to an error. All zones
-- are closed in what the tables stand for then, and in what they stand for after a crash.
abbrev pub EndsClosed : {S : Type 0} → Ghosts S → Type 0
EndsClosed {S} g =
    (conn began at : Held S) (jobs : List Job) (old new : Option (List ℕ)) (result : Result (List Answer) JobError)
    → IsNewStore g conn began → HasCleanDisk (state g began) → HasCleanDisk (state g at)
    → AllByRecursion HasJobForms jobs → EndsJobs g began at empty_system jobs old new (λ answers. answers) result
    → StaysClosed g at
