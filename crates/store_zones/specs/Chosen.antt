-- The table of the ++VERs by which entries were installed. If it was the first, there is no row.
use Rattle.std.specs.Prelude.{◌≤◌, ◌<◌, ◌^◌, ℕ, List, Option, unwrap_or}
use Rattle.sqlite.specs.Order.{Row}
use Rattle.terms.specs.Forms.{IsId, IsZoneName}
use Rattle.terms.specs.Types.{Text}
use Rattle.store_schema.specs.Rows.{chosen_row}
use Rattle.store_zones.specs.declared.installed_vers.TheConstants.{SELECT, INSERT, INSERT_MANY, UPSERT, DELETE}
use Rattle.store_zones.specs.declared.installed_vers.EntryNumber.{EntryNumber}
use Rattle.store_zones.specs.declared.zone_rows.ZoneRow.{ZoneRow}

abbrev pub select_chosen : List ℕ
select_chosen = SELECT.now

abbrev pub insert_chosen : List ℕ
insert_chosen = INSERT.now

abbrev pub insert_numbers : List ℕ
insert_numbers = INSERT_MANY.now

abbrev pub upsert_chosen : List ℕ
upsert_chosen = UPSERT.now

abbrev pub delete_chosen : List ℕ
delete_chosen = DELETE.now

-- the number of the old entry of an id, or 1 if there was none
abbrev pub number_before : Option ℕ → ℕ
number_before stood = unwrap_or stood 1

abbrev pub number_row : Text → EntryNumber → Row
number_row zone n = chosen_row zone n.id n.number

abbrev pub row_of_number : ZoneRow EntryNumber → Row
row_of_number r = number_row r.zone r.item

-- a number that is not 1 and fits into a column
pub record HasNumberForms (r : ZoneRow EntryNumber) : Type 0 where
  pub zone : IsZoneName r.zone
  pub id : IsId r.item.id
  pub least : 2 ≤ r.item.number
  pub most : r.item.number < 2 ^ 63
