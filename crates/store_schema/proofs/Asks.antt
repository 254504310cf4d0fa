-- Texts that ask for the rows of one table, under each schema that has it.
use Rattle.std.proofs.Common.{◌≡◌, ◌≢◌, ◌++◌, ℕ, List, refl}
use Rattle.std.specs.Prelude.{⊤}
use Rattle.sqlite.specs.Table.{Table}
use Rattle.store_rows.specs.Selects.{IsSelect}
use Rattle.store_rows.specs.Texts.{IsTableOf, ReadsRows}
use Rattle.store_schema.specs.declared.schema.Schema.{Schema}
use Rattle.store_schema.specs.declared.schema.Schema.TheVariants.{First, Second, Third}
use Rattle.store_schema.specs.Earlier.{schema_under}
use Rattle.store_schema.specs.Tables.{first_tables, second_tables, schema_of, store_schema}
use Rattle.store_schema.proofs.UnderEach.{under_each, under_later, under_third}

-- The text asks for the rows of the table by so many of their first columns, in each schema that has it.
pub record Asks (knows : Schema → Type 0) (at : ℕ) (table : Table) (width : ℕ) (sql : List ℕ) : Type 0 where
  pub reads : (r : Schema) → knows r → ReadsRows (schema_under r) table width sql
  pub there : (r : Schema) → knows r → IsTableOf (schema_under r) at table
  pub selects : IsSelect sql

module _ {at : ℕ} {table : Table} {width : ℕ} {sql : List ℕ} where
  -- of a table that each schema has
  pub asks_each : ((more : List Table) → ReadsRows (schema_of (first_tables ++ more)) table width sql)
      → IsTableOf (schema_under First) at table → IsTableOf (schema_under Second) at table
      → IsTableOf (schema_under Third) at table → IsSelect sql → Asks (λ r. ⊤) at table width sql
  asks_each reads first second third selects = record {
    reads = λ r known. under_each (λ schema. ReadsRows schema table width sql) reads r;
    there = λ r known. by r;
    selects = selects;
  }
    where
      by : (r : Schema) → IsTableOf (schema_under r) at table
      by First = first
      by Second = second
      by Third = third

  -- of one that came with schema 2
  pub asks_later : ((more : List Table) → ReadsRows (schema_of (second_tables ++ more)) table width sql)
      → IsTableOf (schema_under Second) at table → IsTableOf (schema_under Third) at table → IsSelect sql
      → Asks (λ r. r ≢ First) at table width sql
  asks_later reads second third selects = record {
    reads = under_later (λ schema. ReadsRows schema table width sql) reads;
    there = by;
    selects = selects;
  }
    where
      by : (r : Schema) → r ≢ First → IsTableOf (schema_under r) at table
      by First later = absurd (later refl)
      by Second later = second
      by Third later = third

  -- and of one that came with schema 3
  pub asks_third : ReadsRows store_schema table width sql → IsTableOf store_schema at table → IsSelect sql
      → Asks (λ r. r ≡ Third) at table width sql
  asks_third reads there selects = record {
    reads = under_third (λ schema. ReadsRows schema table width sql) reads;
    there = under_third (λ schema. IsTableOf schema at table) there;
    selects = selects;
  }
