-- What the calls inside a transaction do.
use Rattle.std.specs.Prelude.{◌≡◌, IsTrue}
use Rattle.sqlite.specs.Store.{Ghosts}
use Rattle.sqlite.specs.Tree.{Trees}
use Rattle.sqlite.specs.Schema.{Schema}
use Rattle.sqlite.specs.Effect.{Database}
use Rattle.sqlite.specs.Held.{Held, state}
use Rattle.sqlite.specs.State.{State, HasCleanDisk, Survives, KeepsCommit}
use Rattle.sqlite.specs.declared.transaction.Transaction.{Transaction}

-- the connection is open, and its last commit stands for this
pub record HoldsOpen {X : Type 0} (Stands : X → Database → Type 0) (at : State) (x : X) : Type 0 where
  pub is_open : IsTrue at.is_open
  pub stands : Stands x at.committed

module _ {S : Type 0} (g : Ghosts S) (old new : Held S) where
  -- nothing is committed, and no crash has a new outcome
  pub record StaysInside : Type 0 where
    pub survives : Survives (state g old) (state g new) (λ _. ⊥)
    pub kept : HasCleanDisk (state g new) → KeepsCommit (state g old) (state g new)

  -- a database with P becomes one with Q
  abbrev pub Leads : (Database → Type 0) → (Database → Type 0) → Type 0
  Leads P Q = HasCleanDisk (state g new) → P (state g old).now → Q (state g new).now

  -- whatever the database stands for, it then stands for the function's value of that
  abbrev pub Turns : {X : Type 0} → (X → Database → Type 0) → (X → X) → Type 0
  Turns {X} Stands make = HasCleanDisk (state g new) → (x : X) → Stands x (state g old).now
      → Stands (make x) (state g new).now

-- The transaction is on the same connection, in which nothing is committed, and no crash has a new outcome.
pub record Continues {S : Type 0} (g : Ghosts S) (old new : Transaction S) : Type 0 where
  pub same_reference : new.conn.ghost_name ≡ old.conn.ghost_name
  pub inside : StaysInside g old.conn.now new.conn.now

-- trees of a database with Q, if the old one had P
abbrev pub IsMade : {S : Type 0} → Ghosts S → Held S → (Database → Type 0) → (Database → Type 0) → Trees → Type 0
IsMade g old P Q db = (schema : Schema) × (P (state g old).now → Q (record { schema = schema; trees = db }))
