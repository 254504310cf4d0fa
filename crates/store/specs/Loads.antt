-- How loads end.
use Rattle.std.specs.Prelude.{◌≢◌, Result, Ok, Err, IfOk, IfErr, IsErrOf, OnOk, OnErr}
use Rattle.sqlite.specs.Store.{Ghosts}
use Rattle.sqlite.specs.Tree.{Trees}
use Rattle.sqlite.specs.Held.{Held, state}
use Rattle.sqlite.specs.State.{HasCleanDisk}
use Rattle.store_rows.specs.declared.error.ReadError.{ReadError}
use Rattle.store_rows.specs.declared.error.ReadError.TheVariants as read
use Rattle.store_rows.specs.Reads.{OnlyReads}
use Rattle.store_schema.specs.declared.error.StoreError.{StoreError}
use Rattle.store_schema.specs.declared.error.StoreError.TheVariants.{Fault, OtherSchema, NoState, Memory}
use Rattle.store_schema.specs.Inventory.{Inventory}
use Rattle.store_schema.specs.Tables.{store_schema}
use Rattle.store.specs.BadRows.{TellsNoState}
use Rattle.store.specs.Causes.{HasCause}
use Rattle.store.specs.View.{Tables, TablesIfOpen, MayLeave}

-- rows that stand for nothing stand for no state
abbrev pub store_error : ReadError → StoreError
store_error read.Memory = Memory
store_error read.Fault = Fault
store_error read.BadRow = NoState

abbrev pub told : {X : Type 0} → Result X ReadError → Result X StoreError
told (Ok x) = Ok x
told (Err e) = Err (store_error e)

-- The answer is that of the inventory for which the tables stand. They still stand for it, after an error if the
-- connection is still open, and a crash leaves nothing that it could not have left before. An answer changes nothing.
-- Nor does the error for no state, which is returned only if there is none. A fault has a cause.
pub record Loads {S X : Type 0} (g : Ghosts S) (old new : Held S) (Found : Inventory → X → Type 0)
    (result : Result X StoreError) : Type 0 where
  pub found : HasCleanDisk (state g new) → (i : Inventory) → Tables g old i → IfOk result (Found i)
  pub none : TellsNoState g old new result
  pub reads : OnlyReads g store_schema NoState Fault old new result
  pub cause : HasCleanDisk (state g new) → IsErrOf result Fault → (i : Inventory) → Tables g old i
      → HasCause g old new i (λ _. ⊥)
  pub same : OnOk result ((i : Inventory) → Tables g old i → Tables g new i)
  pub err : OnErr result ((i : Inventory) → Tables g old i → TablesIfOpen g new i)
  pub which : IfErr result (λ e. e ≢ OtherSchema)
  pub crash : (i : Inventory) → Tables g old i → (db : Trees) → MayLeave g new db → MayLeave g old db
  pub clean : HasCleanDisk (state g new) → HasCleanDisk (state g old)
