-- What a commit of statements does, whatever the tables hold.
use Rattle.std.specs.Prelude.{◌≡◌, true, IsTrue, List, Result, OnOk, OnErr}
use Rattle.sqlite.specs.Store.{Ghosts}
use Rattle.sqlite.specs.Tree.{Trees}
use Rattle.sqlite.specs.Held.{Held, state}
use Rattle.sqlite.specs.State.{HasCleanDisk, KeepsCommit, Survives}
use Rattle.store_rows.specs.Calls.{Call, Ran}

module _ {S : Type 0} (g : Ghosts S) (calls : List Call) (old : Held S) where
  -- The statements ran, in their order, in a transaction that was begun here.
  abbrev pub RanInside : Held S → Type 0
  RanInside last = Ran g calls (record old { in_transaction = true }) last

  -- trees that the statements make
  abbrev pub IsWritten : Trees → Type 0
  IsWritten db = (last : Held S) × RanInside last × (db ≡ (state g last).now.trees)

  -- The last commit is what the statements made, and nothing else.
  pub record CommitsWritten (new : Held S) : Type 0 where
    pub last : Held S
    pub ran : RanInside last
    pub was_open : IsTrue (state g old).is_open
    pub is_open : IsTrue (state g new).is_open
    pub committed : (state g new).committed ≡ (state g last).now

  -- After success the commit holds what the statements made, and after an error nothing is committed. A crash leaves
  -- what it could leave before, or what the statements made.
  pub record OnlyCommits (new : Held S) {X E : Type 0} (result : Result X E) : Type 0 where
    pub made : HasCleanDisk (state g new) → OnOk result (CommitsWritten new)
    pub kept : HasCleanDisk (state g new) → OnErr result (KeepsCommit (state g old) (state g new))
    pub crash : Survives (state g old) (state g new) IsWritten
