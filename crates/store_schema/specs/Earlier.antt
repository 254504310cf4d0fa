-- What the tables of earlier schemas stand for. They are read only to be migrated.
use Rattle.std.specs.Prelude.{◌≡◌, ◌≤◌, ◌⊎◌, ℤ, List, [], ◌∷◌, ◌++◌, map, length, pos, All, IfSome}
use Rattle.std.specs.List.{flat_map}
use Rattle.sqlite.specs.declared.types.Value.TheVariants as value
use Rattle.sqlite.specs.Order.{Row}
use Rattle.sqlite.specs.Table.{Table}
use Rattle.sqlite.specs.Schema.{Schema as SqliteSchema}
use Rattle.sqlite.specs.Effect.{Database}
use Rattle.terms.specs.Types.{Sysmod}
use Rattle.terms.specs.Lookups.{IsRising}
use Rattle.terms.specs.Spelling.{kind_text}
use Rattle.store_rows.specs.Rows.{Contents, HasContents}
use Rattle.store_schema.specs.Tables.{meta, sysmod, source, schema_of}
use Rattle.store_schema.specs.Tables.{morever, moreif, chosen, first_tables, second_tables, all_tables}
use Rattle.store_schema.specs.Inventory.{Inventory, IsInventory}
use Rattle.store_schema.specs.Rows.{setting_row, joined, sysmod_row}
use Rattle.store_schema.specs.Rows.{sources_of}
use Rattle.store_schema.specs.Stands.{rows_in, shared_tables_of, StandsFor, IsStateOf}
use Rattle.store_schema.specs.declared.schema.Schema.{Schema}
use Rattle.store_schema.specs.declared.schema.Schema.TheVariants.{First, Second, Third}

-- No SYSMOD has two ++VERs of one SREL, and each entry was installed by the first one.
pub record IsOfEarlier (i : Inventory) : Type 0 where
  pub singles : All (λ s. IsRising (map (λ v. v.srel) s.vers)) i.global.sysmods
  pub firsts : All (λ z. All (λ e. IfSome e.applied (λ a. a.number ≡ 1)) z.zone.entries) i.zones

-- Under schema 1 the sources of a SYSMOD are in its row, joined by commas.
abbrev pub first_sysmod_row : Sysmod → Row
first_sysmod_row s = value.Text s.id ∷ value.Text (kind_text s.kind) ∷ joined s.sources ∷ []

abbrev pub first_rows_of : Inventory → Contents
first_rows_of i = rows_in (
    (meta, setting_row (pos 1) ∷ [])
    ∷ (sysmod, map first_sysmod_row i.global.sysmods)
    ∷ shared_tables_of i)

-- and had at most 8 characters
abbrev pub HasShortSources : Sysmod → Type 0
HasShortSources s = All (λ name. length name ≤ 8) s.sources

-- The tables are those of schema 1, and hold the rows of the inventory.
pub record StandsForFirst (i : Inventory) (db : Database) : Type 0 where
  pub tables : HasContents (schema_of first_tables) (first_rows_of i) db
  pub inventory : IsInventory i
  pub earlier : IsOfEarlier i
  pub sources : All HasShortSources i.global.sysmods

-- Under schema 2 the sources have a table of their own, as they have today.
abbrev pub second_rows_of : Inventory → Contents
second_rows_of i = rows_in (
    (meta, setting_row (pos 2) ∷ [])
    ∷ (sysmod, map sysmod_row i.global.sysmods)
    ∷ shared_tables_of i
    ++ (source, flat_map sources_of i.global.sysmods)
    ∷ [])

-- The tables are those of schema 2, and hold the rows of the inventory.
pub record StandsForSecond (i : Inventory) (db : Database) : Type 0 where
  pub tables : HasContents (schema_of second_tables) (second_rows_of i) db
  pub inventory : IsInventory i
  pub earlier : IsOfEarlier i

-- the tables of a schema
abbrev pub tables_under : Schema → List Table
tables_under First = first_tables
tables_under Second = second_tables
tables_under Third = all_tables

-- the tables of the store that it lacks
abbrev pub missing_tables : Schema → List Table
missing_tables First = source ∷ morever ∷ moreif ∷ chosen ∷ []
missing_tables Second = morever ∷ moreif ∷ chosen ∷ []
missing_tables Third = []

-- that schema as SQLite stores it, and its number
abbrev pub schema_under : Schema → SqliteSchema
schema_under r = schema_of (tables_under r)

abbrev pub number_under : Schema → ℤ
number_under First = pos 1
number_under Second = pos 2
number_under Third = pos 3

abbrev pub StandsUnder : Schema → Inventory → Database → Type 0
StandsUnder First = StandsForFirst
StandsUnder Second = StandsForSecond
StandsUnder Third = StandsFor

-- what the database stands for, whichever schema its tables have
abbrev pub IsEarlierStateOf : Inventory → Database → Type 0
IsEarlierStateOf i db = IsStateOf i db ⊎ StandsForFirst i db ⊎ StandsForSecond i db

-- A database has at most one state, also under earlier schemas.
abbrev pub HasOneEarlierState : Type 0
HasOneEarlierState = (db : Database) (i j : Inventory) → IsEarlierStateOf i db → IsEarlierStateOf j db → i ≡ j
