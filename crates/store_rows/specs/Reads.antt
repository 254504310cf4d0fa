-- What a call that only reads rows leaves, and why it fails.
use Rattle.std.specs.Prelude.{◌≡◌, ◌⊎◌, false, IsSome, Result, OnOk, IsErrOf}
use Rattle.sqlite.specs.Store.{Ghosts}
use Rattle.sqlite.specs.Schema.{Schema}
use Rattle.sqlite.specs.Held.{Held, state}
use Rattle.sqlite.specs.State.{State, HasCleanDisk, IsUnchanged, KeepsCommit, Survives}
use Rattle.sqlite_disk.specs.Disk.{MoreFaults}

-- the disk failed or refused, or the connection had been shut
abbrev pub HasFailed : State → State → Type 0
HasFailed old new = MoreFaults old.faults new.faults ⊎ (old.is_open ≡ false)

-- why a query that suits the tables fails: for one of these reasons, or because of a limit on the steps of a query
abbrev pub FailsToRead : State → State → Type 0
FailsToRead old new = HasFailed old new ⊎ IsSome old.step_limit

-- After an answer all is as it was, and so it is after the error for bad rows. After any other error what was last
-- committed is as it was. The error for a fault has a cause, if the tables are those of the schema. A crash has no new
-- outcome.
pub record OnlyReads {S X E : Type 0} (g : Ghosts S) (schema : Schema) (bad_row fault : E) (old new : Held S)
    (result : Result X E) : Type 0 where
  pub same : HasCleanDisk (state g new) → OnOk result (IsUnchanged (state g old) (state g new))
  pub bad : HasCleanDisk (state g new) → IsErrOf result bad_row → IsUnchanged (state g old) (state g new)
  pub cause : HasCleanDisk (state g new) → IsErrOf result fault → old.schema ≡ schema
      → FailsToRead (state g old) (state g new)
  pub kept : HasCleanDisk (state g new) → KeepsCommit (state g old) (state g new)
  pub crash : Survives (state g old) (state g new) (λ _. ⊥)
  pub mode : old.in_transaction ≡ false → new.in_transaction ≡ false
