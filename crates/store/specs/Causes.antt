-- Why a call met a fault of the database.
use Rattle.std.specs.Prelude.{◌≡◌, ◌⊎◌, ◌≤◌, IsTrue, IsSome}
use Rattle.sqlite.specs.Store.{Ghosts}
use Rattle.sqlite.specs.Held.{Held, state}
use Rattle.sqlite.specs.State.{KeepsCommit}
use Rattle.sqlite.specs.Disk.{MoreFaults}
use Rattle.store_schema.specs.Inventory.{Inventory}
use Rattle.store_schema.specs.Stands.{StandsFor}
use Rattle.store.specs.declared.change.Change.{Change}
use Rattle.store.specs.Calls.{IsRefused}

-- A moment and a later one: no failure of the disk is forgotten, and the limit on steps is the same.
abbrev pub IsLater : {S : Type 0} → Ghosts S → Held S → Held S → Type 0
IsLater g old new = ((state g old).faults ≤ (state g new).faults) × (new.step_limit ≡ old.step_limit)

-- A call began at `old` and ended at `at`. At some moment, not earlier than its beginning, the tables of the open
-- connection stood for the inventory. From that moment to the end nothing was committed. In the same time the disk
-- failed or refused, or there is a limit on steps, which a query may have met, or the database refused a statement of
-- the commit of one of the call's own changes.
pub record HasCause {S : Type 0} (g : Ghosts S) (old at : Held S) (i : Inventory) (IsOwn : Change → Type 0) : Type 0
  where
    pub moment : Held S
    pub since : IsLater g old moment
    pub is_open : IsTrue (state g moment).is_open
    pub stands : StandsFor i (state g moment).now
    pub kept : KeepsCommit (state g moment) (state g at)
    pub why : MoreFaults (state g moment).faults (state g at).faults
        ⊎ (IsSome old.step_limit ⊎ ((change : Change) × IsOwn change × IsRefused g change moment))
