-- The table of the ++IFs of the ++VERs that are further ones of their SREL.
use Rattle.std.specs.Prelude.{ℕ, ◌<◌, not, if◌then◌else◌, List, [], map}
use Rattle.std.specs.List.{enumerate_from}
use Rattle.sqlite.specs.Order.{Row}
use Rattle.terms.specs.Types.{Id, Ver}
use Rattle.store_schema.specs.Rows.{moreif_row, is_first}
use Rattle.store_sysmods.specs.declared.moreif.TheConstants.{SELECT, INSERT, INSERT_MANY, DELETE}
use Rattle.store_sysmods.specs.declared.ifreq.IfRow.{IfRow}
use Rattle.store_sysmods.specs.Ifs.{HasIfRowForms}

abbrev pub select_moreifs : List ℕ
select_moreifs = SELECT.now

abbrev pub insert_moreif : List ℕ
insert_moreif = INSERT.now

abbrev pub insert_moreifs : List ℕ
insert_moreifs = INSERT_MANY.now

abbrev pub delete_moreifs : List ℕ
delete_moreifs = DELETE.now

-- the rows of the ++IFs of a ++VER of this number among those of its SREL
abbrev pub further_ifs : Id → ℕ × Ver → List Row
further_ifs x v = if not (is_first v) then map (moreif_row x v.1.srel v.0) (enumerate_from 1 v.1.ifs) else []

abbrev pub row_of_more_if : IfRow → Row
row_of_more_if r = moreif_row r.id r.srel r.place (r.number, r.ifreq)

-- the forms that a single row shows
abbrev pub HasFurtherIfForms : IfRow → Type 0
HasFurtherIfForms r = HasIfRowForms r × (1 < r.place)
