-- What the tables hold, told in two ways that agree on each of them.
use Rattle.std.proofs.Common.{[], ◌∷◌}
use Rattle.sqlite.specs.Effect.{Database}
use Rattle.store_rows.specs.Rows.{Contents, HasContents}
use Rattle.store_schema.specs.Create.{HasTables, with_new}
use Rattle.store_schema.specs.Earlier.{missing_tables}
use Rattle.store_schema.specs.Tables.{first_tables, second_tables, all_tables, source, morever, moreif, chosen}
use Rattle.store_schema.specs.Tables.{schema_of, store_schema}
use Rattle.store_schema.specs.declared.schema.Schema.TheVariants.{First}

-- before a table is made it is told of as empty
pub without_source : (contents : Contents) (db : Database) → HasContents (schema_of first_tables) contents db
    → HasContents (schema_of first_tables) (with_new (source ∷ []) contents) db
without_source contents db h = record { schema_is = h.schema_is; sound = h.sound; tables = h.tables }

pub without_more : (contents : Contents) (db : Database) → HasContents (schema_of second_tables) contents db
    → HasContents (schema_of second_tables) (with_new (morever ∷ moreif ∷ chosen ∷ []) contents) db
without_more contents db h = record { schema_is = h.schema_is; sound = h.sound; tables = h.tables }

-- where all tables are empty, new ones are no exception
pub source_to_none : (db : Database) → HasContents (schema_of second_tables) (with_new (source ∷ []) (λ _. [])) db
    → HasTables second_tables db
source_to_none db h = record { schema_is = h.schema_is; sound = h.sound; tables = h.tables }

pub adds_to_none : (db : Database) → HasContents store_schema (with_new (missing_tables First) (λ _. [])) db
    → HasTables all_tables db
adds_to_none db h = record { schema_is = h.schema_is; sound = h.sound; tables = h.tables }

-- what is added in two steps
pub added_both : (contents : Contents) (db : Database)
    → HasContents store_schema (with_new (morever ∷ moreif ∷ chosen ∷ []) (with_new (source ∷ []) contents)) db
    → HasContents store_schema (with_new (missing_tables First) contents) db
added_both contents db h = record { schema_is = h.schema_is; sound = h.sound; tables = h.tables }
