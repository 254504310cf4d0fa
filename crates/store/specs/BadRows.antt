-- What loads leave, and what it means that rows stand for no state.
use Rattle.std.specs.Prelude.{IsTrue, Result, IsErrOf}
use Rattle.sqlite.specs.Store.{Ghosts}
use Rattle.sqlite.specs.Held.{Held, state}
use Rattle.sqlite.specs.State.{HasCleanDisk, IsUnchanged, Survives}
use Rattle.store_schema.specs.declared.error.StoreError.{StoreError}
use Rattle.store_schema.specs.declared.error.StoreError.TheVariants.{NoState}
use Rattle.store_schema.specs.Inventory.{Inventory}
use Rattle.store_schema.specs.Stands.{StandsFor}

module _ {S : Type 0} (g : Ghosts S) (old new : Held S) where
  -- An open connection is open and shows what it showed before, and one that was shut is shut. A crash has no new
  -- outcome. The tables need not stand for anything.
  pub record OnlyLoads : Type 0 where
    pub was_open : HasCleanDisk (state g new) → IsTrue (state g new).is_open → IsTrue (state g old).is_open
    pub same : HasCleanDisk (state g new) → IsTrue (state g old).is_open → IsUnchanged (state g old) (state g new)
    pub crash : Survives (state g old) (state g new) (λ _. ⊥)

  -- No inventory stands for what an open connection had committed, which is as before.
  pub record FoundNoState : Type 0 where
    pub loads : OnlyLoads
    pub was_open : IsTrue (state g old).is_open
    pub none : (i : Inventory) → ¬ StandsFor i (state g old).committed

  -- an answer that there is no state
  abbrev pub TellsNoState : {X : Type 0} → Result X StoreError → Type 0
  TellsNoState result = HasCleanDisk (state g new) → IsErrOf result NoState → FoundNoState
