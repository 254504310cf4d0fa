-- What is read from the tables of a schema before they become the store's.
use Rattle.std.specs.Prelude.{◌≡◌, List, map, Vec, Result, IfOk, OnOk, IsErrOf}
use Rattle.std.specs.declared.alloc.Global.{Global as AnyGlobal}
use Rattle.sqlite.specs.Effect.{IsDatabase}
use Rattle.sqlite.specs.Store.{Ghosts}
use Rattle.sqlite.specs.Held.{Held, state}
use Rattle.sqlite.specs.State.{HasCleanDisk}
use Rattle.store_rows.specs.declared.error.ReadError.{ReadError}
use Rattle.store_rows.specs.declared.error.ReadError.TheVariants as read
use Rattle.store_rows.specs.Reads.{OnlyReads}
use Rattle.store_rows.specs.Rows.{Contents, HasContents}
use Rattle.terms.specs.Types.{NamedZone}
use Rattle.store_schema.specs.declared.schema.Schema.{Schema}
use Rattle.store_schema.specs.Earlier.{schema_under, StandsUnder}
use Rattle.store_schema.specs.Inventory.{Inventory}
use Rattle.store_schema.specs.Known.{HasTablesUnder}
use Rattle.store_migration.specs.declared.head.Head.{Head}
use Rattle.store_migration.specs.TakenOver.{heads_under}
use Rattle.store_zones.specs.declared.head.ZoneHead.{ZoneHead}
use Rattle.store_zones.specs.Found.{head_of}
use Rattle.store_zones.specs.Held.{HoldsHeads}
use Rattle.store_migration.specs.Migrated.{HasRowids}
use Rattle.store.specs.Whole.{HoldsZones}

-- The answer has the SYSMODs whose sources move, and the tables stand for an inventory. Bad rows stand for none.
pub record Checks {S : Type 0} (g : Ghosts S) (schema : Schema) (old new : Held S)
    (result : Result (Vec Head AnyGlobal) ReadError) : Type 0 where
  pub found : HasCleanDisk (state g new) → (i : Inventory) → StandsUnder schema i (state g old).now
      → IfOk result (λ heads. heads.items ≡ heads_under schema i)
  pub none : HasCleanDisk (state g new) → IsErrOf result read.BadRow → (i : Inventory)
      → ¬ StandsUnder schema i (state g old).now
  pub stood : HasCleanDisk (state g new) → OnOk result (IsDatabase (state g old).now
      → HasTablesUnder schema (state g old).now → HasRowids (state g old).now
      → (i : Inventory) × StandsUnder schema i (state g old).now)
  pub reads : OnlyReads g (schema_under schema) read.BadRow read.Fault old new result

-- The zones of these heads were read, one after the other.
pub record ChecksZones {S X : Type 0} (g : Ghosts S) (schema : Schema) (heads : List ZoneHead) (old new : Held S)
    (result : Result X ReadError) : Type 0 where
  pub none : HasCleanDisk (state g new) → IsErrOf result read.BadRow → (i : Inventory) → heads ≡ map head_of i.zones
      → ¬ StandsUnder schema i (state g old).now
  pub rows : HasCleanDisk (state g new) → OnOk result ((contents : Contents)
      → HasContents (schema_under schema) contents (state g old).now → HoldsHeads contents heads
      → (zones : List NamedZone) × HoldsZones schema contents zones)
  pub reads : OnlyReads g (schema_under schema) read.BadRow read.Fault old new result
