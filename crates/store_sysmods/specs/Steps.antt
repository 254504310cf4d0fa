-- What a call inside a transaction does: which statements it runs, and how they change the tables.
use Rattle.std.specs.Prelude.{ℕ, List, Result, OnOk}
use Rattle.sqlite.specs.Store.{Ghosts}
use Rattle.sqlite.specs.Order.{Row}
use Rattle.sqlite.specs.Table.{Table}
use Rattle.sqlite.specs.declared.transaction.Transaction.{Transaction}
use Rattle.sqlite.specs.declared.error.Error.{Error}
use Rattle.store_rows.specs.Calls.{Call, RunsInside, puts}
use Rattle.store_rows.specs.Inside.{Continues, Turns}
use Rattle.store_rows.specs.Rows.{Contents, HasContents, in_table, with_rows}
use Rattle.store_schema.specs.Tables.{store_schema}

-- The statements ran and changed what the tables held in this way, or one of them failed or memory ran out. Nothing is
-- committed.
pub record RunsCalls {S X : Type 0} (g : Ghosts S) (calls : List Call) (make : Contents → Contents)
    (old new : Transaction S)
    (result : Result X Error) : Type 0 where
  pub continues : Continues g old new
  pub runs : RunsInside g calls old.conn.now new.conn.now result
  pub ok : OnOk result (Turns g old.conn.now new.conn.now (HasContents store_schema) make)

-- the rows were put by the two texts, and the table holds them besides
abbrev pub Puts : {S X : Type 0} → Ghosts S → List ℕ → List ℕ → Table → List Row → Transaction S → Transaction S
    → Result X Error → Type 0
Puts g some one table rows old new result =
    RunsCalls g (puts some one rows) (in_table table (with_rows rows)) old new result
