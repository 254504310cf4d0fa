-- The schemas that can be compared: they have no expression, default or view.
use Rattle.std.specs.Prelude.{◌≡◌, []}
use Rattle.std.specs.List.{AllByRecursion}
use Rattle.sqlite_value.specs.declared.value.Value.TheVariants.{Null}
use Rattle.sqlite_schema.specs.declared.schema.Column.{Column}
use Rattle.sqlite_schema.specs.declared.schema.Table.{Table}
use Rattle.sqlite_schema.specs.declared.schema.Stamps.{Stamps}
use Rattle.sqlite_schema.specs.declared.schema.Schema.{Schema}

abbrev pub no_stamps : Stamps
no_stamps = record { places = []; terms = []; formats = [] }

abbrev pub HasNoDefault : Column → Type 0
HasNoDefault c = c.default ≡ Null

-- no CHECK, and no column with a DEFAULT
pub record IsPlainTable (table : Table) : Type 0 where
  pub columns : AllByRecursion HasNoDefault table.columns
  pub checks : table.checks ≡ []
  pub stamps : table.stamps ≡ no_stamps

-- its tables are plain, and it has no view
pub record IsPlain (schema : Schema) : Type 0 where
  pub tables : AllByRecursion IsPlainTable schema.tables
  pub views : schema.views ≡ []
