-- The table of sources.
use Rattle.std.specs.Prelude.{ℕ, List}
use Rattle.sqlite.specs.Order.{Row}
use Rattle.terms.specs.Forms.{IsId, IsSource}
use Rattle.store_schema.specs.Rows.{source_row}
use Rattle.store_sysmods.specs.declared.source.TheConstants.{SELECT, INSERT, INSERT_MANY, DELETE}
use Rattle.store_sysmods.specs.declared.source.SourceRow.{SourceRow}

abbrev pub select_sources : List ℕ
select_sources = SELECT.now

abbrev pub insert_source : List ℕ
insert_source = INSERT.now

abbrev pub insert_sources : List ℕ
insert_sources = INSERT_MANY.now

abbrev pub delete_sources : List ℕ
delete_sources = DELETE.now

abbrev pub row_of_source : SourceRow → Row
row_of_source r = source_row r.id r.name

-- the forms that a single row shows
abbrev pub HasSourceForms : SourceRow → Type 0
HasSourceForms r = IsId r.id × IsSource r.name
