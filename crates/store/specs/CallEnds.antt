-- How a call over the store goes, and how it ends: it is done, memory ran out, it met a fault, or it found no state.
use Rattle.std.specs.Prelude.{◌≡◌, ◌≤◌, ◌⊎◌, Result, Ok, Err, IsErrOf}
use Rattle.sqlite.specs.Store.{Ghosts}
use Rattle.sqlite.specs.Held.{Held, state}
use Rattle.sqlite.specs.State.{HasCleanDisk}
use Rattle.store_schema.specs.Inventory.{Inventory}
use Rattle.store_schema.specs.declared.error.StoreError.{StoreError}
use Rattle.store_schema.specs.declared.error.StoreError.TheVariants.{Fault, Memory}
use Rattle.machine.specs.State.{State}
use Rattle.machine.specs.Machine.{Act}
use Rattle.store.specs.BadRows.{FoundNoState}
use Rattle.store.specs.Causes.{HasCause}
use Rattle.store.specs.Going.{GoesOver}
use Rattle.store.specs.View.{TablesIfOpen, Leaves}
use Rattle.store.specs.declared.change.Change.{Change}
use Rattle.store.specs.Kept.{kept, Keeps, IsAfter, LeadsOn}

-- A moment of a store and a later one. If the disk is clean at the later one, it was clean before. No failure of the
-- disk is forgotten, and the limit on steps is the same.
pub record Follows {S : Type 0} (g : Ghosts S) (old new : Held S) : Type 0 where
  pub clean : HasCleanDisk (state g new) → HasCleanDisk (state g old)
  pub faults : (state g old).faults ≤ (state g new).faults
  pub limit : new.step_limit ≡ old.step_limit

-- ---- whatever the tables hold

-- The call has loaded, or made one of its own changes besides, or failed to. If it reports no state, by the error
-- `absent`, it has done nothing, and there is none. It never reports another schema, by the error `other`.
pub record GoesCall {S X E : Type 0} (g : Ghosts S) (old new : Held S) (IsMine : Change → Type 0) (absent other : E)
    (result : Result X E) : Type 0 where
  pub follows : Follows g old new
  pub over : GoesOver g old new IsMine result
  pub none : HasCleanDisk (state g new) → IsErrOf result absent → FoundNoState g old new
  pub which : ¬ IsErrOf result other

-- ---- if the tables stood for a state

-- The store still keeps the state, but a fault may have shut the connection. A crash leaves the state, or one of
-- `More`.
pub record StillKeeps {S : Type 0} (g : Ghosts S) (at : Held S) (s : State) (More : Inventory → Type 0) : Type 0 where
  pub now : TablesIfOpen g at (kept s)
  pub crash : Leaves g at (λ c. (c ≡ kept s) ⊎ More c)

-- A call began at `old`, and has ended. `IsMine` says which changes it could make, and `More` what a crash may leave of
-- them if it failed.
module _ {S : Type 0} (g : Ghosts S) (old at : Held S) (s : State) (More : Inventory → Type 0)
    (IsMine : Change → Type 0) where
  -- It met a fault. The cause is since its beginning, while the tables stood for the state.
  pub record IsFaulted : Type 0 where
    pub still : StillKeeps g at s More
    pub cause : HasCause g old at (kept s) IsMine

  -- It failed because memory ran out, or by a fault. If the tables stood for a state there is no other error.
  abbrev pub FailsCall : StoreError → Type 0
  FailsCall Fault = IsFaulted
  FailsCall Memory = StillKeeps g at s More
  FailsCall _ = ⊥

  -- It is done, and this is true of its answer, or it failed.
  abbrev pub EndsCall : {X : Type 0} → (X → Type 0) → Result X StoreError → Type 0
  EndsCall IsDone (Ok x) = IsDone x
  EndsCall IsDone (Err error) = FailsCall error

-- A load that began at `old` has ended: this is true of what it found, and the store keeps the state.
abbrev pub EndsLoad : {S : Type 0} → Ghosts S → Held S → Held S → State → {X : Type 0} → (X → Type 0)
    → Result X StoreError → Type 0
EndsLoad g old at s Found result = EndsCall g old at s (λ _. ⊥) (λ _. ⊥) (λ x. Found x × Keeps g at s) result

-- A commit of the change, which makes t, has ended: this is the answer, and the store keeps t.
abbrev pub EndsCommit : {S : Type 0} → Ghosts S → Held S → Held S → State → {X : Type 0} → State → Change → X
    → Result X StoreError → Type 0
EndsCommit g old at s t change answer result =
    EndsCall g old at s (λ c. c ≡ kept t) (λ own. own ≡ change) (λ x. (x ≡ answer) × Keeps g at t) result

-- An act has failed.
abbrev pub FailsAct : {S : Type 0} → Ghosts S → Held S → Held S → State → Act → StoreError → Type 0
FailsAct g old at s a error = FailsCall g old at s (IsAfter s a) (LeadsOn s a) error

-- An act is done in this way, or has failed.
abbrev pub EndsAct : {S : Type 0} → Ghosts S → Held S → Held S → State → Act → {X : Type 0} → (X → Type 0)
    → Result X StoreError → Type 0
EndsAct g old at s a IsDone result = EndsCall g old at s (IsAfter s a) (LeadsOn s a) IsDone result
