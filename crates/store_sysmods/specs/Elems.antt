-- The table of element statements.
use Rattle.std.specs.Prelude.{ℕ, Bool, true, false, Option, Some, None, List}
use Rattle.sqlite.specs.Order.{Row}
use Rattle.terms.specs.declared.kinds.Kind.TheVariants.{Ptf}
use Rattle.terms.specs.Forms.{IsId}
use Rattle.terms.specs.Types.{Text, Lines, Action, Replaces, Updates}
use Rattle.store_schema.specs.Forms.{HasChangeForms}
use Rattle.store_schema.specs.Rows.{elem_row}
use Rattle.store_sysmods.specs.declared.elem.TheConstants.{SELECT, INSERT, INSERT_MANY, DELETE}
use Rattle.store_sysmods.specs.declared.elem.ElemRow.{ElemRow}

abbrev pub select_elems : List ℕ
select_elems = SELECT.now

abbrev pub insert_elem : List ℕ
insert_elem = INSERT.now

abbrev pub insert_elems : List ℕ
insert_elems = INSERT_MANY.now

abbrev pub delete_elems : List ℕ
delete_elems = DELETE.now

-- what a statement does, as columns
abbrev pub is_update : Action → Bool
is_update (Replaces distlib syslib lines) = false
is_update (Updates lines) = true

-- An update names no libraries.
abbrev pub distlib_of : Action → Option Text
distlib_of (Replaces distlib syslib lines) = Some distlib
distlib_of (Updates lines) = None

abbrev pub syslib_of : Action → Option Text
syslib_of (Replaces distlib syslib lines) = Some syslib
syslib_of (Updates lines) = None

abbrev pub lines_of : Action → Lines
lines_of (Replaces distlib syslib lines) = lines
lines_of (Updates lines) = lines

abbrev pub row_of_elem : ElemRow → Row
row_of_elem r = elem_row r.id r.change

-- the forms that a single row shows, for a statement of any SYSMOD; a PTF may have most of them
abbrev pub HasElemRowForms : ElemRow → Type 0
HasElemRowForms r = IsId r.id × HasChangeForms Ptf r.change
