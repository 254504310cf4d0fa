-- What is so under several schemas.
use Rattle.std.proofs.Common.{◌≡◌, ◌≢◌, ◌++◌, List, [], ◌∷◌, refl}
use Rattle.sqlite.specs.Effect.{Database}
use Rattle.sqlite.specs.Schema.{Schema as SqliteSchema}
use Rattle.sqlite.specs.Table.{Table}
use Rattle.store_rows.specs.Rows.{Contents, HasContents}
use Rattle.store_schema.specs.declared.schema.Schema.{Schema}
use Rattle.store_schema.specs.declared.schema.Schema.TheVariants.{First, Second, Third}
use Rattle.store_schema.specs.Earlier.{first_rows_of, second_rows_of, schema_under, StandsUnder}
use Rattle.store_schema.specs.Inventory.{Inventory, IsInventory}
use Rattle.store_schema.specs.Stands.{rows_of}
use Rattle.store_schema.specs.Tables.{source, morever, moreif, chosen, first_tables, second_tables, schema_of}
use Rattle.store_schema.specs.Tables.{store_schema}

module _ (P : SqliteSchema → Type 0) where
  -- whatever tables follow on those of schema 1
  pub under_each : ((more : List Table) → P (schema_of (first_tables ++ more))) → (r : Schema) → P (schema_under r)
  under_each h First = h []
  under_each h Second = h (source ∷ [])
  under_each h Third = h (source ∷ morever ∷ moreif ∷ chosen ∷ [])

  -- whatever tables follow on those of schema 2
  pub under_later : ((more : List Table) → P (schema_of (second_tables ++ more))) → (r : Schema) → r ≢ First
      → P (schema_under r)
  under_later h First later = absurd (later refl)
  under_later h Second later = h []
  under_later h Third later = h (morever ∷ moreif ∷ chosen ∷ [])

  pub under_third : P store_schema → (r : Schema) → r ≡ Third → P (schema_under r)
  under_third h First is = absurd cc
  under_third h Second is = absurd cc
  under_third h Third is = h

-- ---- what stands for an inventory

-- its rows
abbrev pub rows_under : Schema → Inventory → Contents
rows_under First = first_rows_of
rows_under Second = second_rows_of
rows_under Third = rows_of

pub stands_rows : (r : Schema) (i : Inventory) (db : Database) → StandsUnder r i db
    → HasContents (schema_under r) (rows_under r i) db
stands_rows First i db h = h.tables
stands_rows Second i db h = h.tables
stands_rows Third i db h = h.tables

pub stands_inventory : (r : Schema) (i : Inventory) (db : Database) → StandsUnder r i db → IsInventory i
stands_inventory First i db h = h.inventory
stands_inventory Second i db h = h.inventory
stands_inventory Third i db h = h.inventory
