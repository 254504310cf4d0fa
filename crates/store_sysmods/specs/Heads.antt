-- The table of SYSMODs, each without its statements.
use Rattle.std.specs.Prelude.{ℕ, ◌≤◌, List, [], ◌∷◌, length, All}
use Rattle.sqlite.specs.declared.types.Value.TheVariants as value
use Rattle.sqlite.specs.Order.{Row}
use Rattle.terms.specs.Forms.{IsId, IsSource}
use Rattle.terms.specs.Spelling.{kind_text}
use Rattle.terms.specs.Types.{Text}
use Rattle.store_schema.specs.Forms.{AreSorted}
use Rattle.store_schema.specs.Rows.{joined}
use Rattle.store_schema.specs.declared.schema.Schema.{Schema}
use Rattle.store_schema.specs.declared.schema.Schema.TheVariants.{First}
use Rattle.store_sysmods.specs.declared.head.TheConstants.{SELECT, INSERT, INSERT_MANY, DELETE}
use Rattle.store_sysmods.specs.declared.head.HeadRow.{HeadRow}
use Rattle.store_sysmods.specs.declared.head.BareHead.{BareHead}

abbrev pub select_sysmods : List ℕ
select_sysmods = SELECT.now

abbrev pub insert_sysmod : List ℕ
insert_sysmod = INSERT.now

abbrev pub insert_sysmods : List ℕ
insert_sysmods = INSERT_MANY.now

abbrev pub delete_sysmod : List ℕ
delete_sysmod = DELETE.now

-- with its sources, as under schema 1
abbrev pub row_of_head : HeadRow → Row
row_of_head h = value.Text h.id ∷ value.Text (kind_text h.kind) ∷ joined h.sources ∷ []

-- without them
abbrev pub row_of_bare : BareHead → Row
row_of_bare h = value.Text h.id ∷ value.Text (kind_text h.kind) ∷ joined [] ∷ []

-- the forms that a single row shows
abbrev pub HasBareForms : BareHead → Type 0
HasBareForms h = IsId h.id

abbrev pub HasHeadForms : HeadRow → Type 0
HasHeadForms h = IsId h.id × AreSorted IsSource h.sources

-- the sources of schema 1
abbrev pub AreShort : List Text → Type 0
AreShort names = All (λ name. length name ≤ 8) names

abbrev pub HasShortForms : HeadRow → Type 0
HasShortForms h = HasHeadForms h × AreShort h.sources

-- the forms of a head under the schema
abbrev pub HasFormsUnder : Schema → HeadRow → Type 0
HasFormsUnder First h = HasShortForms h
HasFormsUnder _ h = HasHeadForms h
