-- How the sources of SYSMODs move from their own rows to a table.
use Rattle.std.specs.Prelude.{ℕ, List, [], ◌∷◌, codes, fold}
use Rattle.sqlite.specs.declared.types.Value.TheVariants as value
use Rattle.sqlite.specs.Order.{Row}
use Rattle.terms.specs.Types.{Text, Id, Sysmod}
use Rattle.terms.specs.Spelling.{kind_text}
use Rattle.store_rows.specs.Rows.{Contents, in_table, with_row, in_place}
use Rattle.store_schema.specs.Rows.{joined, source_row, number_row}
use Rattle.store_schema.specs.Tables.{meta, sysmod, source}
use Rattle.store_migration.specs.declared.head.Head.{Head}
use Rattle.store_migration.specs.declared.number.TheConstants as ForNumber
use Rattle.store_migration.specs.declared.sources.TheConstants as ForSysmod

abbrev pub replace_sysmod : List ℕ
replace_sysmod = ForSysmod.REPLACE.now

abbrev pub replace_number : List ℕ
replace_number = ForNumber.REPLACE.now

abbrev pub head_of : Sysmod → Head
head_of s = record { id = s.id; kind = s.kind; sources = s.sources }

-- its row, whose column of sources is empty
abbrev pub bare_row : Head → Row
bare_row h = value.Text h.id ∷ value.Text (kind_text h.kind) ∷ joined [] ∷ []

-- the table of sources has one more row
abbrev pub with_source : Id → Contents → Text → Contents
with_source x contents name = in_table source (with_row (source_row x name)) contents

-- the table of sources also has those of the SYSMOD, and the SYSMOD's own row has none
abbrev pub with_moved : Contents → Head → Contents
with_moved contents h =
    in_table sysmod (in_place (value.Text h.id ∷ []) (bare_row h)) (fold (with_source h.id) contents h.sources)

-- the number is this schema's
abbrev pub with_number : Contents → Contents
with_number contents = in_table meta (in_place (value.Text (codes "schema") ∷ []) number_row) contents
