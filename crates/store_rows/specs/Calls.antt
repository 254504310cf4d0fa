-- Statements that run one after the other in a transaction, and why one fails.
use Rattle.std.specs.Prelude.{◌≡◌, ◌⊎◌, ◌*◌, ◌/◌, ℕ, zero, suc, IsTrue, List, [], ◌∷◌, ◌++◌, map, length, take, drop}
use Rattle.std.specs.Prelude.{Result, Ok, Err}
use Rattle.std.specs.List.{flat_map}
use Rattle.sqlite.specs.Store.{Ghosts}
use Rattle.sqlite.specs.Order.{Row}
use Rattle.sqlite.specs.declared.error.Error.{Error}
use Rattle.sqlite.specs.declared.error.Error.TheVariants.{SqliteFailure}
use Rattle.sqlite.specs.declared.error.ErrorCode.TheVariants.{OutOfMemory, TooBig}
use Rattle.sqlite.specs.Held.{Held, state}
use Rattle.sqlite.specs.State.{HasCleanDisk, IsUnchanged, Executes, ExecutesInside}
use Rattle.store_rows.specs.Reads.{HasFailed}

-- a statement: its text and its parameters
abbrev pub Call : Type 0
Call = List ℕ × Row

-- how many rows one INSERT puts, if there are that many
abbrev pub many : ℕ
many = 16

-- so many runs of as many rows
abbrev pub runs : ℕ → List Row → List (List Row)
runs zero rows = []
runs (suc n) rows = take many rows ∷ runs n (drop many rows)

-- the columns of rows, row after row
abbrev pub columns_of : List Row → Row
columns_of = flat_map (λ (row : Row). row)

-- INSERTs of these rows, whose columns are the parameters: first so many rows at a time by one text, and then the
-- remaining ones, one at a time, by another.
abbrev pub puts : List ℕ → List ℕ → List Row → List Call
puts some one rows =
    let n = length rows / many in
    map (λ run. (some, columns_of run)) (runs n rows) ++ map (λ row. (one, row)) (drop (n * many) rows)

module _ {S : Type 0} (g : Ghosts S) where
  -- each of them ran, in their order
  abbrev pub Ran : List Call → Held S → Held S → Type 0
  Ran [] old new = new ≡ old
  Ran (call ∷ more) old new =
      (mid : Held S) × (count : ℕ) × Executes call.0 call.1 (state g old) (state g mid) (Ok count) × Ran more mid new

  -- Those before one of them ran, under the same limit on steps. The database refused that one, or has no room for its
  -- row.
  pub record RefusedCall (calls : List Call) (old new : Held S) (error : Error) : Type 0 where
    pub before : List Call
    pub call : Call
    pub after : List Call
    pub are : calls ≡ before ++ call ∷ after
    pub at : Held S
    pub limit : (state g at).step_limit ≡ (state g old).step_limit
    pub ran : Ran before old at
    pub refused : ExecutesInside 0 call.0 call.1 (state g at) (state g new) (Err error)
    pub left : IsUnchanged (state g at) (state g new) ⊎ (error ≡ SqliteFailure TooBig)

  -- They ran, or memory ran out, the database failed, or it refused one of them.
  abbrev pub RunsThrough : List Call → Held S → Held S → {X : Type 0} → Result X Error → Type 0
  RunsThrough calls old new (Ok x) = Ran calls old new × IsTrue new.in_transaction
  RunsThrough calls old new (Err e) =
      (e ≡ SqliteFailure OutOfMemory) ⊎ (HasFailed (state g old) (state g new) ⊎ RefusedCall calls old new e)

  -- this is so in a transaction
  abbrev pub RunsInside : List Call → Held S → Held S → {X : Type 0} → Result X Error → Type 0
  RunsInside calls old new result =
      HasCleanDisk (state g new) → IsTrue old.in_transaction → RunsThrough calls old new result
