-- Rows that are all in one table, or some in one table and the rest in another.
use Rattle.std.specs.Prelude.{◌≡◌, ◌++◌, List, Result, map, IfOk, IsErrOf, IsPermutation}
use Rattle.std.specs.List.{AllByRecursion}
use Rattle.sqlite.specs.Store.{Ghosts}
use Rattle.sqlite.specs.Held.{Held, state}
use Rattle.sqlite.specs.Order.{Row}
use Rattle.sqlite.specs.State.{HasCleanDisk}
use Rattle.store_rows.specs.declared.error.ReadError.{ReadError}
use Rattle.store_rows.specs.declared.error.ReadError.TheVariants.{BadRow, Fault}
use Rattle.store_rows.specs.Reads.{OnlyReads}
use Rattle.store_rows.specs.Rows.{Contents, HasContents}
use Rattle.store_schema.specs.declared.schema.Schema.{Schema}
use Rattle.store_schema.specs.declared.schema.Schema.TheVariants.{Third}
use Rattle.store_schema.specs.Earlier.{schema_under}

-- The first table holds these, the other table holds those, and both together are the rows.
pub record AreOfBoth {X : Type 0} (row_of further_row_of : X → Row) (HasForm HasFurtherForm : X → Type 0)
    (held further_held : List Row) (firsts furthers rows : List X) : Type 0 where
  pub firsts_forms : AllByRecursion HasForm firsts
  pub furthers_forms : AllByRecursion HasFurtherForm furthers
  pub firsts_are : IsPermutation (map row_of firsts) held
  pub furthers_are : IsPermutation (map further_row_of furthers) further_held
  pub all : IsPermutation (firsts ++ furthers) rows

-- they are those of both tables under schema 3, and those of the first under earlier schemas
abbrev pub AreRowsIn : {X : Type 0} → Schema → (X → Row) → (X → Row) → (X → Type 0) → (X → Type 0) → List Row
    → List Row → List X → Type 0
AreRowsIn {X} Third row_of further_row_of HasForm HasFurtherForm held further_held rows =
    (firsts : List X) × (furthers : List X)
    × AreOfBoth row_of further_row_of HasForm HasFurtherForm held further_held firsts furthers rows
AreRowsIn _ row_of further_row_of HasForm HasFurtherForm held further_held rows =
    AllByRecursion HasForm rows × IsPermutation (map row_of rows) held

-- The tables hold what the call returns. If they hold the rows of a rising list it returns this list. It reports a bad
-- row if they hold the rows of none.
pub record LoadsRows {S X Y : Type 0} (g : Ghosts S) (r : Schema) (items : Y → List X)
    (AreHeld : List X → Contents → Type 0) (Rise : List X → Type 0) (old new : Held S) (result : Result Y ReadError) :
    Type 0 where
  pub found : HasCleanDisk (state g new) → (contents : Contents)
      → HasContents (schema_under r) contents (state g old).now → IfOk result (λ y. AreHeld (items y) contents)
  pub only : HasCleanDisk (state g new) → (contents : Contents)
      → HasContents (schema_under r) contents (state g old).now
      → IfOk result (λ y. (xs : List X) → AreHeld xs contents → Rise xs → items y ≡ xs)
  pub none : HasCleanDisk (state g new) → IsErrOf result BadRow → (contents : Contents)
      → HasContents (schema_under r) contents (state g old).now → (xs : List X) → ¬ AreHeld xs contents
  pub reads : OnlyReads g (schema_under r) BadRow Fault old new result
