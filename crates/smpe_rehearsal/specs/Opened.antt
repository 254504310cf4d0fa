-- A connection that became a store.
use Rattle.sqlite.specs.Store.{Ghosts}
use Rattle.sqlite.specs.Held.{Held, state}
use Rattle.sqlite.specs.State.{HasCleanDisk, IsUnchanged, Survives}
use Rattle.machine.specs.Runs.{Stands}
use Rattle.store_schema.specs.Create.{IsBlank}
use Rattle.store_schema.specs.Inventory.{Inventory}
use Rattle.store_schema.specs.Known.{HasOwnTables}
use Rattle.store_schema.specs.Stands.{IsSetUp}
use Rattle.store.specs.View.{Tables, Leaves, IsFound}

-- The connection became this store. The store's tables, created if there were none, stand for what was found. A
-- database that was not blank is as it was, whatever its tables hold.
pub record IsStoreOver {S : Type 0} (g : Ghosts S) (conn store : Held S) : Type 0 where
  pub stands : (i : Inventory) → IsFound g conn i → Stands (Tables g store) (Leaves g store) i
  pub ours : HasCleanDisk (state g store) → HasOwnTables (state g store).now
  pub same : HasCleanDisk (state g store) → ¬ IsBlank (state g conn).now → IsUnchanged (state g conn) (state g store)
  pub crash : Survives (state g conn) (state g store) (IsSetUp (state g conn).now)
