-- The table of the ++VERs that are further ones of their SREL.
use Rattle.std.specs.Prelude.{◌≡◌, ℕ, ◌<◌, not, if◌then◌else◌, List, [], ◌∷◌}
use Rattle.sqlite.specs.Order.{Row}
use Rattle.terms.specs.Types.{Id, Ver}
use Rattle.store_schema.specs.Rows.{morever_row, is_first}
use Rattle.store_sysmods.specs.declared.morever.TheConstants.{SELECT, INSERT, INSERT_MANY, DELETE}
use Rattle.store_sysmods.specs.declared.ver.VerRow.{VerRow}
use Rattle.store_sysmods.specs.Vers.{HasVerRowForms}

abbrev pub select_morevers : List ℕ
select_morevers = SELECT.now

abbrev pub insert_morever : List ℕ
insert_morever = INSERT.now

abbrev pub insert_morevers : List ℕ
insert_morevers = INSERT_MANY.now

abbrev pub delete_morevers : List ℕ
delete_morevers = DELETE.now

-- the rows of a ++VER of this number among those of its SREL
abbrev pub further_row : Id → ℕ × Ver → List Row
further_row x v = if not (is_first v) then morever_row x v ∷ [] else []

abbrev pub row_of_more_ver : VerRow → Row
row_of_more_ver r = morever_row r.id (r.number, r.ver)

-- the forms that a single row shows; no function has a further ++VER
abbrev pub HasFurtherForms : VerRow → Type 0
HasFurtherForms r = HasVerRowForms r × (1 < r.number) × (r.ver.npre ≡ []) × (r.ver.del ≡ [])
