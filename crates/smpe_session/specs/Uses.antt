-- How a call goes over the store, and how it ends.
use Rattle.std.specs.Prelude.{Result}
use Rattle.sqlite.specs.Store.{Ghosts}
use Rattle.sqlite.specs.Held.{Held, state}
use Rattle.sqlite.specs.State.{HasCleanDisk}
use Rattle.machine.specs.State.{State}
use Rattle.store.specs.declared.change.Change.{Change}
use Rattle.store_schema.specs.declared.error.StoreError.{StoreError}
use Rattle.store_schema.specs.declared.error.StoreError.TheVariants.{OtherSchema, NoState}
use Rattle.store.specs.CallEnds.{GoesCall}
use Rattle.store.specs.Kept.{Keeps}

-- A call began at `old` and has ended. Whatever the tables hold, it has loaded, or made one of its own changes besides.
-- If they stood for a state, it has ended as `Ends` says of the state and the result.
pub record UsesStore {S X : Type 0} (g : Ghosts S) (old new : Held S) (IsMine : Change → Type 0)
    (Ends : State → Result X StoreError → Type 0) (result : Result X StoreError) : Type 0 where
  pub goes : GoesCall g old new IsMine NoState OtherSchema result
  pub ends : HasCleanDisk (state g new) → (s : State) → Keeps g old s → Ends s result
