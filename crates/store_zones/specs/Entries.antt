-- The table of SYSMOD entries, each without the number of its ++VER.
use Rattle.std.specs.Prelude.{◌≡◌, ℕ, List, [], ◌∷◌, IfSome}
use Rattle.sqlite.specs.declared.types.Value.TheVariants as value
use Rattle.sqlite.specs.Order.{Row}
use Rattle.terms.specs.Forms.{IsId, IsZoneName}
use Rattle.terms.specs.Types.{Text, Id, Entry}
use Rattle.store_schema.specs.Forms.{AreSorted, HasAppliedForms}
use Rattle.store_schema.specs.Rows.{entry_row}
use Rattle.store_zones.specs.declared.entry.TheConstants.{SELECT, INSERT, INSERT_MANY, UPSERT, DELETE}
use Rattle.store_zones.specs.declared.zone_rows.ZoneRow.{ZoneRow}

abbrev pub select_entries : List ℕ
select_entries = SELECT.now

abbrev pub insert_entry : List ℕ
insert_entry = INSERT.now

abbrev pub insert_entries : List ℕ
insert_entries = INSERT_MANY.now

abbrev pub upsert_entry : List ℕ
upsert_entry = UPSERT.now

abbrev pub delete_entry : List ℕ
delete_entry = DELETE.now

-- the zone and the id of an entry as columns, by which its number also has its row
abbrev pub entry_key : Text → Id → Row
entry_key zone id = value.Text zone ∷ value.Text id ∷ []

abbrev pub row_of_entry : ZoneRow Entry → Row
row_of_entry r = entry_row r.zone r.item

-- it was installed by the first ++VER of the SREL, if it was
abbrev pub IsFirst : Entry → Type 0
IsFirst e = IfSome e.applied (λ a. a.number ≡ 1)

-- Only the whole zone shows why an entry exists. The row has no number, so that it is 1.
pub record HasEntryRowForms (r : ZoneRow Entry) : Type 0 where
  pub zone : IsZoneName r.zone
  pub id : IsId r.item.id
  pub applied : IfSome r.item.applied HasAppliedForms
  pub first : IsFirst r.item
  pub supby : AreSorted IsId r.item.supby
  pub delby : IfSome r.item.delby IsId
  pub waived : AreSorted IsId r.item.waived
