-- The table of the ++VERs that are the first of their SREL.
use Rattle.std.specs.Prelude.{◌≡◌, ℕ, ◌==◌, Bool, if◌then◌else◌, List, [], ◌∷◌}
use Rattle.std.specs.List.{join_with_byte}
use Rattle.sqlite.specs.Order.{Row}
use Rattle.terms.specs.declared.kinds.Kind.TheVariants.{Function}
use Rattle.terms.specs.Forms.{IsId}
use Rattle.terms.specs.Types.{Id, Ver}
use Rattle.store_schema.specs.Forms.{HasVerForms}
use Rattle.store_schema.specs.Rows.{ver_row, is_first}
use Rattle.store_sysmods.specs.declared.ver.TheConstants.{SELECT, INSERT, INSERT_MANY, DELETE}
use Rattle.store_sysmods.specs.declared.ver.VerTexts.{VerTexts}
use Rattle.store_sysmods.specs.declared.ver.VerRow.{VerRow}

abbrev pub select_vers : List ℕ
select_vers = SELECT.now

abbrev pub insert_ver : List ℕ
insert_ver = INSERT.now

abbrev pub insert_vers : List ℕ
insert_vers = INSERT_MANY.now

abbrev pub delete_vers : List ℕ
delete_vers = DELETE.now

-- the rows of a ++VER of this number among those of its SREL
abbrev pub first_row : Id → ℕ × Ver → List Row
first_row x v = if is_first v then ver_row x v.1 ∷ [] else []

-- The lists of a ++VER as the texts of columns: its ids, joined by commas.
pub record AreVerTexts (lists : VerTexts) (v : Ver) : Type 0 where
  pub pre : lists.pre.items ≡ join_with_byte 44 v.pre
  pub req : lists.req.items ≡ join_with_byte 44 v.req
  pub sup : lists.sup.items ≡ join_with_byte 44 v.sup
  pub npre : lists.npre.items ≡ join_with_byte 44 v.npre
  pub del : lists.del.items ≡ join_with_byte 44 v.del

abbrev pub row_of_ver : VerRow → Row
row_of_ver r = ver_row r.id r.ver

-- whether the row is one of this table
abbrev pub is_first_row : VerRow → Bool
is_first_row r = r.number == 1

-- the forms that a single row shows, for a ++VER of any SYSMOD; a function may have most of them
abbrev pub HasVerRowForms : VerRow → Type 0
HasVerRowForms r = IsId r.id × HasVerForms Function r.id r.ver × (r.ver.ifs ≡ [])

abbrev pub HasFirstForms : VerRow → Type 0
HasFirstForms r = HasVerRowForms r × (r.number ≡ 1)
