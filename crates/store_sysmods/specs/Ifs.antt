-- The table of the ++IFs of the ++VERs that are the first of their SREL.
use Rattle.std.specs.Prelude.{◌≡◌, ℕ, ◌==◌, Bool, if◌then◌else◌, List, [], map}
use Rattle.std.specs.List.{enumerate_from}
use Rattle.sqlite.specs.Order.{Row}
use Rattle.terms.specs.Forms.{IsId, IsSrel}
use Rattle.terms.specs.Types.{Id, Ver}
use Rattle.store_schema.specs.Forms.{HasIfForms}
use Rattle.store_schema.specs.Rows.{ifreq_row, is_first}
use Rattle.store_sysmods.specs.declared.ifreq.TheConstants.{SELECT, INSERT, INSERT_MANY, DELETE}
use Rattle.store_sysmods.specs.declared.ifreq.IfRow.{IfRow}

abbrev pub select_ifreqs : List ℕ
select_ifreqs = SELECT.now

abbrev pub insert_ifreq : List ℕ
insert_ifreq = INSERT.now

abbrev pub insert_ifreqs : List ℕ
insert_ifreqs = INSERT_MANY.now

abbrev pub delete_ifreqs : List ℕ
delete_ifreqs = DELETE.now

-- the rows of the ++IFs of a ++VER of this number among those of its SREL
abbrev pub first_ifs : Id → ℕ × Ver → List Row
first_ifs x v = if is_first v then map (ifreq_row x v.1.srel) (enumerate_from 1 v.1.ifs) else []

abbrev pub row_of_if : IfRow → Row
row_of_if r = ifreq_row r.id r.srel (r.number, r.ifreq)

-- whether the row is one of this table
abbrev pub is_first_if : IfRow → Bool
is_first_if r = r.place == 1

-- the forms that a single row shows, for an ++IF of any ++VER
abbrev pub HasIfRowForms : IfRow → Type 0
HasIfRowForms r = IsId r.id × IsSrel r.srel × HasIfForms r.id r.ifreq

abbrev pub HasFirstIfForms : IfRow → Type 0
HasFirstIfForms r = HasIfRowForms r × (r.place ≡ 1)
