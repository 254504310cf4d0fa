-- The table of element entries.
use Rattle.std.specs.Prelude.{ℕ, List, [], ◌∷◌}
use Rattle.sqlite.specs.declared.types.Value.TheVariants as value
use Rattle.sqlite.specs.Order.{Row}
use Rattle.terms.specs.declared.kinds.ElemType.{ElemType}
use Rattle.terms.specs.Forms.{IsZoneName}
use Rattle.terms.specs.Spelling.{type_text}
use Rattle.terms.specs.Types.{Text, Element}
use Rattle.store_schema.specs.Forms.{HasElementForms}
use Rattle.store_schema.specs.Rows.{zelem_row}
use Rattle.store_zones.specs.declared.element.TheConstants.{SELECT, INSERT, INSERT_MANY, UPSERT, DELETE}
use Rattle.store_zones.specs.declared.zone_rows.ZoneRow.{ZoneRow}

abbrev pub select_elements : List ℕ
select_elements = SELECT.now

abbrev pub insert_element : List ℕ
insert_element = INSERT.now

abbrev pub insert_elements : List ℕ
insert_elements = INSERT_MANY.now

abbrev pub upsert_element : List ℕ
upsert_element = UPSERT.now

abbrev pub delete_element : List ℕ
delete_element = DELETE.now

-- the zone, and the type and the name of an element, as columns
abbrev pub element_key : Text → ElemType → Text → Row
element_key zone type name = value.Text zone ∷ value.Text (type_text type) ∷ value.Text name ∷ []

abbrev pub row_of_element : ZoneRow Element → Row
row_of_element r = zelem_row r.zone r.item

pub record HasElementRowForms (r : ZoneRow Element) : Type 0 where
  pub zone : IsZoneName r.zone
  pub element : HasElementForms r.item
