-- The tables while they are being created.
use Rattle.std.specs.Prelude.{◌≡◌, ◌==◌, if◌then◌else◌, List, []}
use Rattle.std.specs.List.{list_any}
use Rattle.sqlite.specs.Table.{Table}
use Rattle.sqlite.specs.Effect.{Database}
use Rattle.store_rows.specs.Rows.{Contents, HasContents}
use Rattle.store_schema.specs.Tables.{schema_of}

-- there is no table, index or view
abbrev pub IsBlank : Database → Type 0
IsBlank db = db.schema ≡ schema_of []

-- these are its tables, and they have no rows
abbrev pub HasTables : List Table → Database → Type 0
HasTables tables = HasContents (schema_of tables) (λ _. [])

-- these tables have no rows, and the others keep their rows
abbrev pub with_new : List Table → Contents → Contents
with_new tables contents tree = if list_any (λ (t : Table). t.tree == tree) tables then [] else contents tree
