-- What the tables of a schema hold of zones.
use Rattle.std.specs.Prelude.{◌≡◌, List, [], ◌∷◌, map, All, IsPermutation, Option, None, Some, IfSome}
use Rattle.std.specs.List.{AllByRecursion}
use Rattle.std.specs.Option.{option_to_list}
use Rattle.std.specs.Ordering.{nat_cmp}
use Rattle.std.specs.declared.cmp.Ordering.{Ordering}
use Rattle.std.specs.Cmp.Lexicographic.{slice_cmp}
use Rattle.sqlite.specs.declared.types.Value.TheVariants as value
use Rattle.sqlite.specs.Order.{Row}
use Rattle.sqlite.specs.Table.{Table}
use Rattle.store_rows.specs.Rows.{Contents}
use Rattle.store_schema.specs.Asked.{asked}
use Rattle.terms.specs.Forms.{IsZoneName}
use Rattle.terms.specs.Lookups.{element_cmp, element_key}
use Rattle.terms.specs.Rising.{Rises}
use Rattle.terms.specs.Types.{Text, Entry, Element, Zone, NamedZone}
use Rattle.store_schema.specs.declared.schema.Schema.{Schema}
use Rattle.store_schema.specs.declared.schema.Schema.TheVariants.{First, Second, Third}
use Rattle.store_schema.specs.Inventory.{IsZoneNamed}
use Rattle.store_schema.specs.Rows.{zone_row, entry_row, entries_of, zelem_row, zelems_of, chosen_of}
use Rattle.store_schema.specs.Tables as tables
use Rattle.store_zones.specs.declared.installed_vers.EntryNumber.{EntryNumber}
use Rattle.store_zones.specs.declared.head.ZoneHead.{ZoneHead}
use Rattle.store_zones.specs.declared.zone_rows.ZoneRow.{ZoneRow}
use Rattle.store_zones.specs.Numbered.{as_first, numbers_of}
use Rattle.store_zones.specs.Chosen.{number_row, HasNumberForms}
use Rattle.store_zones.specs.Elements.{HasElementRowForms}
use Rattle.store_zones.specs.Entries.{HasEntryRowForms, IsFirst}
use Rattle.store_zones.specs.Heads.{head_row, HasHeadForms}
use Rattle.store_zones.specs.Related.{AreRelated}

-- the rows of a table that name the zone
abbrev pub name_key : Text → Row
name_key name = value.Text name ∷ []

abbrev pub rows_named : Text → Table → Contents → List Row
rows_named name table contents = asked (name_key name) (contents table.tree)

-- ---- one zone

-- The rows that name the zone are its own, and it has the forms of a zone.
pub record HoldsZone (contents : Contents) (z : NamedZone) : Type 0 where
  pub head : rows_named z.name tables.zone contents ≡ zone_row z ∷ []
  pub entries : IsPermutation (entries_of z) (rows_named z.name tables.entry contents)
  pub elements : IsPermutation (zelems_of z) (rows_named z.name tables.zelem contents)
  pub forms : IsZoneNamed z
  pub related : IfSome z.zone.related IsZoneName

-- The ++VER by which each entry was installed. Under earlier schemas it was the first.
abbrev pub HoldsNumbers : Schema → Contents → NamedZone → Type 0
HoldsNumbers First contents z = All IsFirst z.zone.entries
HoldsNumbers Second contents z = All IsFirst z.zone.entries
HoldsNumbers Third contents z = IsPermutation (chosen_of z) (rows_named z.name tables.chosen contents)

-- all that the tables of the schema hold for a name, which need not be that of a zone
abbrev pub HoldsUnder : Schema → Contents → Text → Option Zone → Type 0
HoldsUnder r contents name None = rows_named name tables.zone contents ≡ []
HoldsUnder r contents name (Some zone) =
    HoldsNumbers r contents (record { name = name; zone = zone })
    × HoldsZone contents (record { name = name; zone = zone })

-- ---- its parts

-- the row of an item in the zone of a name
abbrev pub in_zone : {X : Type 0} → (ZoneRow X → Row) → Text → X → Row
in_zone row_of name x = row_of (record { zone = name; item = x })

-- The rows that name the zone are the one of the head, if there is one.
pub record HoldsHead (contents : Contents) (name : Text) (head : Option ZoneHead) : Type 0 where
  pub rows : rows_named name tables.zone contents ≡ map head_row (option_to_list head)
  pub forms : AllByRecursion HasHeadForms (option_to_list head)

-- They are those of the items, which have their forms and rise by a key.
pub record HoldsItems {X K : Type 0} (table : Table) (row : Text → X → Row) (HasForm : ZoneRow X → Type 0)
    (cmp : K → K → Ordering) (key : X → K) (contents : Contents) (name : Text) (items : List X) : Type 0 where
  pub rows : IsPermutation (map (row name) items) (rows_named name table contents)
  pub forms : AllByRecursion (λ x. HasForm (record { zone = name; item = x })) items
  pub rise : Rises cmp key items

abbrev pub HoldsEntries : Contents → Text → List Entry → Type 0
HoldsEntries = HoldsItems tables.entry entry_row HasEntryRowForms (slice_cmp nat_cmp) (λ e. e.id)

abbrev pub HoldsChosen : Contents → Text → List EntryNumber → Type 0
HoldsChosen = HoldsItems tables.chosen number_row HasNumberForms (slice_cmp nat_cmp) (λ n. n.id)

-- the numbers of the entries of a zone that are not 1
abbrev pub HasNumbers : Schema → Contents → Text → List EntryNumber → Type 0
HasNumbers First contents name ns = ns ≡ []
HasNumbers Second contents name ns = ns ≡ []
HasNumbers Third contents name ns = HoldsChosen contents name ns

-- the entries of a zone with their numbers
pub record HoldsNumbered (r : Schema) (contents : Contents) (name : Text) (entries : List Entry) : Type 0 where
  pub firsts : HoldsEntries contents name (map as_first entries)
  pub numbers : HasNumbers r contents name (numbers_of entries)

abbrev pub HoldsElements : Contents → Text → List Element → Type 0
HoldsElements = HoldsItems tables.zelem zelem_row HasElementRowForms element_cmp element_key

-- ---- all zones

-- The table of zones holds the rows of these heads, which have their forms, rise by name and suit each other.
pub record HoldsHeads (contents : Contents) (heads : List ZoneHead) : Type 0 where
  pub rows : IsPermutation (map head_row heads) (contents tables.zone.tree)
  pub forms : AllByRecursion HasHeadForms heads
  pub rise : Rises (slice_cmp nat_cmp) (λ h. h.name) heads
  pub related : AreRelated heads
