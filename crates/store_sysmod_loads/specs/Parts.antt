-- What a call that reads some of the rows of SYSMODs leaves.
use Rattle.std.specs.Prelude.{List, Result, IfOk, IsErrOf}
use Rattle.sqlite.specs.Store.{Ghosts}
use Rattle.sqlite.specs.Held.{Held, state}
use Rattle.sqlite.specs.State.{HasCleanDisk}
use Rattle.terms.specs.Types.{Sysmod}
use Rattle.store_rows.specs.declared.error.ReadError.{ReadError}
use Rattle.store_rows.specs.declared.error.ReadError.TheVariants.{BadRow, Fault}
use Rattle.store_rows.specs.Reads.{OnlyReads}
use Rattle.store_rows.specs.Rows.{Contents, HasContents}
use Rattle.store_schema.specs.declared.schema.Schema.{Schema}
use Rattle.store_schema.specs.Earlier.{schema_under}
use Rattle.store_sysmod_loads.specs.Flats.{AreFormed, AreRowsOf}

-- The tables hold what the call returns. If they hold the rows of SYSMODs it returns the parts of these. It reports a
-- bad row if they hold the rows of none.
pub record LoadsPart {S X : Type 0} (g : Ghosts S) (r : Schema) (Holds : X → Contents → Type 0)
    (Has : X → List Sysmod → Type 0) (old new : Held S) (result : Result X ReadError) : Type 0 where
  pub found : HasCleanDisk (state g new) → (contents : Contents)
      → HasContents (schema_under r) contents (state g old).now → IfOk result (λ x. Holds x contents)
  pub only : HasCleanDisk (state g new) → (contents : Contents)
      → HasContents (schema_under r) contents (state g old).now → (sysmods : List Sysmod) → AreFormed r sysmods
      → AreRowsOf r sysmods contents → IfOk result (λ x. Has x sysmods)
  pub none : HasCleanDisk (state g new) → IsErrOf result BadRow → (contents : Contents)
      → HasContents (schema_under r) contents (state g old).now → (sysmods : List Sysmod) → AreFormed r sysmods
      → ¬ AreRowsOf r sysmods contents
  pub reads : OnlyReads g (schema_under r) BadRow Fault old new result
