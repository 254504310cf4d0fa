-- Statements that write a row, told of the row that is equal to the bound values.
use Rattle.std.proofs.Common.{◌≡◌, ℕ, take, Bool, true, List, [], ◌∷◌, Result, OnOk, if◌then◌else◌, subst}
use Rattle.sqlite.specs.Effect.{Database}
use Rattle.sqlite.specs.Store.{Ghosts}
use Rattle.sqlite.specs.Held.{Held}
use Rattle.sqlite.specs.Order.{Row}
use Rattle.sqlite.specs.Table.{Table}
use Rattle.sqlite.specs.declared.error.Error.{Error}
use Rattle.store_rows.specs.Calls.{RunsInside}
use Rattle.store_rows.specs.Inside.{Turns}
use Rattle.store_rows.specs.Rows.{Contents, HasContents, in_table, with_put, with_row}
use Rattle.store_rows.specs.Texts.{SuitColumns}
use Rattle.store_rows.proofs.Bound.{as_inserted, as_put, kept_as}
use Rattle.store_rows.proofs.InsideLemmas.{on_ok}
use Rattle.store_schema.specs.Tables.{store_schema, entry, chosen, zelem}
use Rattle.store_zones.specs.Zones.{rows_with}

module _ {S X : Type 0} (g : Ghosts S) (text : List ℕ) (table : Table) (old new : Held S) (q : Result X Error) where
  -- the statement ran, and the table holds one more row
  abbrev pub InsertsRow : Row → Type 0
  InsertsRow row =
      RunsInside g ((text, row) ∷ []) old new q
      × OnOk q (Turns g old new (HasContents store_schema) (in_table table (with_row row)))

  pub inserts_row : (row r : Row) → r ≡ row → SuitColumns table.columns row → RunsInside g ((text, r) ∷ []) old new q
      → OnOk q (SuitColumns table.columns r
      → Turns g old new (HasContents store_schema) (in_table table (with_row r))) → InsertsRow row
  inserts_row row r is suits calls ok = (
    subst (λ p. RunsInside g ((text, p) ∷ []) old new q) is calls,
    on_ok q _ _ (λ turned. as_inserted g old new store_schema table row r is (turned (kept_as table row r is suits)))
        ok,
  )

  module _ (width : ℕ) where
    -- the statement ran, and the table holds the row in place of the one that has its first columns, so many
    abbrev pub PutsRow : Row → Type 0
    PutsRow row =
        RunsInside g ((text, row) ∷ []) old new q
        × OnOk q (Turns g old new (HasContents store_schema) (with_put table (take width row) row))

    pub puts_row : (row r : Row) → r ≡ row → SuitColumns table.columns row → RunsInside g ((text, r) ∷ []) old new q
        → OnOk q (SuitColumns table.columns r
        → Turns g old new (HasContents store_schema) (with_put table (take width r) r)) → PutsRow row
    puts_row row r is suits calls ok = (
      subst (λ p. RunsInside g ((text, p) ∷ []) old new q) is calls,
      on_ok q _ _
          (λ turned. as_put g old new store_schema table width row r is (turned (kept_as table row r is suits))) ok,
    )

-- the one statement ran where a row of the key stood and the other where none did, and the table holds the row
abbrev pub WritesRow : {S X : Type 0} → Ghosts S → List ℕ → List ℕ → Table → ℕ → Held S → Held S → Result X Error → Row
    → Bool → Type 0
WritesRow g put insert table width old new q row stood =
    RunsInside g ((if stood then put else insert, row) ∷ []) old new q
    × OnOk q (Turns g old new (HasContents store_schema) (in_table table (rows_with stood (take width row) row)))

-- a row that is put is one more, behind the others
pub entry_rows_with : (key row : Row) (contents : Contents) (db : Database)
    → HasContents store_schema (with_put entry key row contents) db
    → HasContents store_schema (in_table entry (rows_with true key row) contents) db
entry_rows_with key row contents db h = record { schema_is = h.schema_is; sound = h.sound; tables = h.tables }

pub number_rows_with : (key row : Row) (contents : Contents) (db : Database)
    → HasContents store_schema (with_put chosen key row contents) db
    → HasContents store_schema (in_table chosen (rows_with true key row) contents) db
number_rows_with key row contents db h = record { schema_is = h.schema_is; sound = h.sound; tables = h.tables }

pub element_rows_with : (key row : Row) (contents : Contents) (db : Database)
    → HasContents store_schema (with_put zelem key row contents) db
    → HasContents store_schema (in_table zelem (rows_with true key row) contents) db
element_rows_with key row contents db h = record { schema_is = h.schema_is; sound = h.sound; tables = h.tables }
