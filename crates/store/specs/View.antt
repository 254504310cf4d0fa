-- What callers see of a store: the inventory for which its tables stand, and what a crash leaves.
use Rattle.std.specs.Prelude.{◌≡◌, IsTrue}
use Rattle.sqlite.specs.Store.{Ghosts}
use Rattle.sqlite.specs.Schema.{Schema}
use Rattle.sqlite.specs.Tree.{Trees}
use Rattle.sqlite.specs.Effect.{IsDatabase}
use Rattle.sqlite.specs.Held.{Held, state}
use Rattle.sqlite.specs.State.{HasCleanDisk, IsLive}
use Rattle.store_schema.specs.Earlier.{IsEarlierStateOf}
use Rattle.store_schema.specs.Inventory.{Inventory}
use Rattle.store_schema.specs.Stands.{StandsFor, IsStateOf}
use Rattle.store_schema.specs.Tables.{store_schema}

module _ {S : Type 0} (g : Ghosts S) (at : Held S) where
  -- The connection is open, and its tables stand for the inventory. It claims nothing if the disk has returned anything
  -- but what was written.
  abbrev pub Tables : Inventory → Type 0
  Tables i = HasCleanDisk (state g at) → IsTrue (state g at).is_open × StandsFor i (state g at).committed

  -- the last commit of a database that may have no tables and views yet
  abbrev pub IsFound : Inventory → Type 0
  IsFound i = HasCleanDisk (state g at) → IsTrue (state g at).is_open → IsStateOf i (state g at).committed

  -- the same, under any schema
  abbrev pub IsEarlierFound : Inventory → Type 0
  IsEarlierFound i =
      HasCleanDisk (state g at) → IsTrue (state g at).is_open → IsEarlierStateOf i (state g at).committed

  -- An open connection shows a database, which is what it last committed.
  abbrev pub ShowsCommitted : Type 0
  ShowsCommitted =
      IsTrue (state g at).is_open → IsDatabase (state g at).now × ((state g at).now ≡ (state g at).committed)

  -- a crash now may leave this
  abbrev pub MayLeave : Trees → Type 0
  MayLeave db = HasCleanDisk (state g at) × (state g at).may_leave db

  -- Each database that a crash may leave lists the store's tables, and stands for one of these inventories.
  abbrev pub Leaves : (Inventory → Type 0) → Type 0
  Leaves Among =
      (db : Trees) → MayLeave db
      → (c : Inventory) × Among c × StandsFor c (record { schema = store_schema; trees = db })

  -- the same of a database that may have no tables and views yet
  abbrev pub LeavesFound : Inventory → Type 0
  LeavesFound i =
      (db : Trees) → MayLeave db
      → (schema : Schema) × IsDatabase (record { schema = schema; trees = db })
      × IsStateOf i (record { schema = schema; trees = db })

  -- the same, under any schema
  abbrev pub LeavesEarlier : Inventory → Type 0
  LeavesEarlier i =
      (db : Trees) → MayLeave db
      → (schema : Schema) × IsDatabase (record { schema = schema; trees = db })
      × IsEarlierStateOf i (record { schema = schema; trees = db })

  -- A fault may have shut the connection. If it has not, the tables stand for the inventory, and a crash leaves it.
  abbrev pub TablesIfOpen : Inventory → Type 0
  TablesIfOpen i = IsTrue (state g at).is_open → Tables i × Leaves (λ c. c ≡ i)

-- The second connection is open and shows what a crash may leave at this moment of the first, which a fault may have
-- shut. An open of files that hold what such a crash left shows that: it is sqlite's `next_run`.
pub record ShowsLeft {S T : Type 0} (g : Ghosts S) (at : Held S) (h : Ghosts T) (again : Held T) : Type 0 where
  pub live : IsLive (state h again)
  pub is_open : IsTrue (state h again).is_open
  pub left : ∥ MayLeave g at (state h again).committed.trees ∥₁
