-- How a migration ends, and what is found after it.
use Rattle.std.specs.Prelude.{◌≡◌, ◌⊎◌, false, IsTrue, ◌∷◌, map, Result, OnOk, OnErr, IsErrOf}
use Rattle.std.specs.List.{AllByRecursion}
use Rattle.sqlite.specs.Store.{Ghosts}
use Rattle.sqlite.specs.Tree.{Trees, rowid}
use Rattle.sqlite.specs.Effect.{Database}
use Rattle.sqlite.specs.Held.{Held, state}
use Rattle.sqlite.specs.State.{State, HasCleanDisk, IsUnchanged, IsLive, KeepsCommit, Survives}
use Rattle.store_rows.specs.Inside.{HoldsOpen}
use Rattle.store_rows.specs.Numbered.{AreNumbered}
use Rattle.store_rows.specs.Rows.{shown}
use Rattle.store_schema.specs.declared.error.StoreError.{StoreError}
use Rattle.store_schema.specs.declared.error.StoreError.TheVariants.{OtherSchema, NoState}
use Rattle.store_schema.specs.declared.schema.Schema.{Schema}
use Rattle.store_schema.specs.Earlier.{IsEarlierStateOf}
use Rattle.store_schema.specs.Inventory.{Inventory}
use Rattle.store_schema.specs.Known.{HasUnknownNumber, HasTablesUnder, HasNoSchema}
use Rattle.store_schema.specs.Stands.{StandsFor}
use Rattle.store_schema.specs.Tables.{store_schema}
use Rattle.store.specs.View.{Tables, IsFound, IsEarlierFound, Leaves, LeavesEarlier, ShowsLeft}

-- The tables stand for no state: they are a schema's, and their rows stand for none, or they are no schema's, although
-- meta gives `schema` only numbers of schemas.
pub record HasNoEarlierState (at : State) : Type 0 where
  pub none : (i : Inventory) → ¬ IsEarlierStateOf i at.now
  pub which : ((r : Schema) × HasTablesUnder r at.now) ⊎ HasNoSchema at

-- No two rows of a table have the same rowid. This is true in each database, though no clause of a connection says it.
abbrev pub HasRowids : Database → Type 0
HasRowids db = AllByRecursion (λ t. AreNumbered (map (λ r. rowid r ∷ shown t r) (db.trees t.tree))) db.schema.tables

-- These trees are the store's tables, and stand for an inventory for which the database stood.
abbrev pub IsTakenOver : Database → Trees → Type 0
IsTakenOver was db = HasRowids was
    → (i : Inventory) × IsEarlierStateOf i was × StandsFor i (record { schema = store_schema; trees = db })

module _ {S : Type 0} (g : Ghosts S) (conn : Held S) where
  -- The database stood for an inventory. Whatever it stood for, the store's tables now stand for, and a crash leaves
  -- that. If the tables were the store's already, nothing has changed. At no moment could a crash leave anything but
  -- what it could leave before, or the store's tables with all that was there.
  pub record Migrated (store : Held S) : Type 0 where
    pub stood : HasCleanDisk (state g store) → HasRowids (state g conn).now
        → (i : Inventory) × IsEarlierStateOf i (state g conn).now
    pub tables : (i : Inventory) → IsEarlierFound g conn i → Tables g store i
    pub leaves : (i : Inventory) → IsEarlierFound g conn i → Leaves g store (λ c. c ≡ i)
    pub same : HasCleanDisk (state g store) → (state g conn).now.schema ≡ store_schema
        → IsUnchanged (state g conn) (state g store)
    pub crash : Survives (state g conn) (state g store) (IsTakenOver (state g conn).now)

  -- The migration failed, for this reason, and what was last committed is unchanged. If the reason is what it found, it
  -- wrote nothing. A crash leaves what was found, under its own schema or under the store's.
  pub record Unmigrated (left : Held S) (why : StoreError) : Type 0 where
    pub other : HasCleanDisk (state g left) → why ≡ OtherSchema → HasUnknownNumber (state g conn)
    pub none : HasCleanDisk (state g left) → why ≡ NoState → HasNoEarlierState (state g conn)
    pub unwritten : (why ≡ OtherSchema) ⊎ (why ≡ NoState) → Survives (state g conn) (state g left) (λ _. ⊥)
    pub same : HasCleanDisk (state g left) → IsTrue (state g left).is_open
        → (state g left).committed ≡ (state g conn).committed
    pub leaves : IsTrue (state g conn).is_open → (i : Inventory) → IsEarlierFound g conn i → LeavesEarlier g left i
    pub crash : Survives (state g conn) (state g left) (IsTakenOver (state g conn).now)
    pub mode : left.in_transaction ≡ false

-- This is how a migration goes over a connection that sees what it last committed.
pub record Migrates {S X : Type 0} (g : Ghosts S) (old new : Held S) (result : Result X StoreError) : Type 0 where
  pub stood : HasCleanDisk (state g new) → OnOk result (HasRowids (state g old).now
      → (i : Inventory) × IsEarlierStateOf i (state g old).now)
  pub stands : HasCleanDisk (state g new) → OnOk result ((i : Inventory) → IsEarlierStateOf i (state g old).now
      → HoldsOpen StandsFor (state g new) i)
  pub is_open : HasCleanDisk (state g new) → OnOk result (IsTrue (state g new).is_open)
  pub same : HasCleanDisk (state g new) → OnOk result ((state g old).now.schema ≡ store_schema
      → IsUnchanged (state g old) (state g new))
  pub other : HasCleanDisk (state g new) → IsErrOf result OtherSchema → HasUnknownNumber (state g old)
  pub none : HasCleanDisk (state g new) → IsErrOf result NoState → HasNoEarlierState (state g old)
  pub unwritten : IsErrOf result OtherSchema ⊎ IsErrOf result NoState
      → Survives (state g old) (state g new) (λ _. ⊥)
  pub kept : HasCleanDisk (state g new) → OnErr result (KeepsCommit (state g old) (state g new))
  pub was_open : HasCleanDisk (state g new) → IsTrue (state g new).is_open → IsTrue (state g old).is_open
  pub crash : Survives (state g old) (state g new) (IsTakenOver (state g old).now)
  pub live : IsLive (state g old)
  pub mode : new.in_transaction ≡ false

module _ {S T : Type 0} (g : Ghosts S) (h : Ghosts T) where
  -- After a migration that failed, whether or not a fault shut the connection, the next one finds what this one found.
  abbrev pub NextMigrationFinds : Type 0
  NextMigrationFinds =
      (conn left : Held S) (again : Held T) (why : StoreError) (i : Inventory) → Unmigrated g conn left why
      → IsTrue (state g conn).is_open → IsEarlierFound g conn i → ShowsLeft g left h again
      → ∥ IsEarlierFound h again i ∥₁

  -- After one that succeeded, the next open finds its result.
  abbrev pub NextOpenFinds : Type 0
  NextOpenFinds =
      (conn store : Held S) (again : Held T) (i : Inventory) → Migrated g conn store → IsEarlierFound g conn i
      → ShowsLeft g store h again → ∥ IsFound h again i ∥₁
