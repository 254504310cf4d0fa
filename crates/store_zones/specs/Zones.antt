-- How a change of one zone's entries or elements changes the inventory.
use Rattle.std.specs.Prelude.{◌≡◌, ◌≢◌, ◌&&◌, ◌==◌, not, ℕ, Bool, List, ◌∷◌, ◌++◌, map, filter, Option, [], is_some}
use Rattle.std.specs.Prelude.{IsPermutation, if◌then◌else◌}
use Rattle.std.specs.List.{AllByRecursion, flat_map}
use Rattle.std.specs.Option.{option_to_list}
use Rattle.std.specs.Str.{bytes_eq}
use Rattle.sqlite.specs.Store.{Ghosts}
use Rattle.sqlite.specs.Held.{Held}
use Rattle.sqlite.specs.Order.{Row}
use Rattle.terms.specs.declared.kinds.ElemType.{ElemType}
use Rattle.terms.specs.declared.kinds.ZoneKind.{ZoneKind}
use Rattle.terms.specs.Types.{Text, Id, type_number, Entry, Element, Global, Zone, NamedZone}
use Rattle.zones_maps.specs.Delta.{number_of}
use Rattle.store_rows.specs.Inside.{Leads}
use Rattle.store_rows.specs.Rows.{Contents, HasContents, in_table, with_rows, without}
use Rattle.store_schema.specs.Inventory.{Inventory}
use Rattle.store_schema.specs.Rows.{entry_row, chosen_row, chosen_in, zelem_row}
use Rattle.store_schema.specs.Stands.{rows_of}
use Rattle.store_schema.specs.Tables.{entry, chosen, zelem, store_schema}
use Rattle.store_zones.specs.Chosen.{number_before}
use Rattle.store_zones.specs.Elements.{element_key}
use Rattle.store_zones.specs.Entries.{entry_key}

-- one more row, instead of those of its key if there was one
abbrev pub rows_with : Bool → Row → Row → List Row → List Row
rows_with stood key row rows = row ∷ (if stood then without key rows else rows)

-- the rows of `chosen` after the number of the entry of this id has changed
abbrev pub numbered : Text → Id → ℕ → ℕ → List Row → List Row
numbered zone id old new rows =
    if new == old then rows else if new == 1 then without (entry_key zone id) rows
    else rows_with (not (old == 1)) (entry_key zone id) (chosen_row zone id new) rows

-- `entry` has the row of the entry, and `chosen` its number, instead of the old ones
abbrev pub with_entry : Text → Option ℕ → Entry → Contents → Contents
with_entry zone stood e contents =
    in_table chosen (numbered zone e.id (number_before stood) (number_of e))
    (in_table entry (rows_with (is_some stood) (entry_key zone e.id) (entry_row zone e)) contents)

-- `entry` has the rows of these entries too, and `chosen` their numbers
abbrev pub with_more_entries : Text → List Entry → Contents → Contents
with_more_entries zone es contents =
    in_table chosen (with_rows (flat_map (chosen_in zone) es))
    (in_table entry (with_rows (map (entry_row zone) es)) contents)

-- neither has a row of the id
abbrev pub without_entry : Text → Option ℕ → Id → Contents → Contents
without_entry zone stood id contents =
    in_table chosen (numbered zone id (number_before stood) 1) (in_table entry (without (entry_key zone id)) contents)

-- `zelem` has the row of the element
abbrev pub with_element : Text → Bool → Element → Contents → Contents
with_element zone stood e =
    in_table zelem (rows_with stood (element_key zone e.elem_type e.name) (zelem_row zone e))

-- `zelem` has the rows of these elements too
abbrev pub with_more_elements : Text → List Element → Contents → Contents
with_more_elements zone es = in_table zelem (with_rows (map (zelem_row zone) es))

-- The zone of this name becomes another. No other zone has the name, and nothing else changes.
pub record IsZoneChange (name : Text) (old new : Zone) (i j : Inventory) : Type 0 where
  pub before : List NamedZone
  pub after : List NamedZone
  pub was : i.zones ≡ before ++ record { name = name; zone = old } ∷ after
  pub is : j ≡ record { global = i.global; zones = before ++ record { name = name; zone = new } ∷ after }
  pub others : AllByRecursion (λ z. z.name ≢ name) (before ++ after)

-- the zone has this entry of the id and no other, or none
abbrev pub HasEntry : Id → Option Entry → Zone → Type 0
HasEntry id stood zone = filter (λ e. bytes_eq e.id id) zone.entries ≡ option_to_list stood

-- the entries of other ids
abbrev pub entries_but : Id → List Entry → List Entry
entries_but id entries = filter (λ e. not (bytes_eq e.id id)) entries

-- whether the element has this type and name
abbrev pub is_element : ElemType → Text → Element → Bool
is_element type name e = (type_number e.elem_type == type_number type) && bytes_eq e.name name

-- the zone has this element of the type and name and no other, or none
abbrev pub HasElement : ElemType → Text → Option Element → Zone → Type 0
HasElement type name stood zone = filter (is_element type name) zone.elements ≡ option_to_list stood

-- the elements of other types and names
abbrev pub elements_but : ElemType → Text → List Element → List Element
elements_but type name elements = filter (λ e. not (is_element type name e)) elements

-- these entries, and those that it had; their order is open
pub record HasMoreEntries (news : List Entry) (old new : Zone) : Type 0 where
  pub rest : new ≡ record old { entries = new.entries }
  pub entries : IsPermutation new.entries (news ++ old.entries)

-- the same for elements
pub record HasMoreElements (news : List Element) (old new : Zone) : Type 0 where
  pub rest : new ≡ record old { elements = new.elements }
  pub elements : IsPermutation new.elements (news ++ old.elements)

-- the entry instead of the one of its id, which is this; their order is open
pub record HasPutEntry (stood : Option Entry) (put : Entry) (old new : Zone) : Type 0 where
  pub was : HasEntry put.id stood old
  pub rest : new ≡ record old { entries = new.entries }
  pub entries : IsPermutation new.entries (put ∷ entries_but put.id old.entries)

-- no entry of the id; this was the old one
pub record HasRemovedEntry (stood : Option Entry) (id : Id) (old new : Zone) : Type 0 where
  pub was : HasEntry id stood old
  pub rest : new ≡ record old { entries = new.entries }
  pub entries : IsPermutation new.entries (entries_but id old.entries)

-- the element instead of the one of its type and name, which is this
pub record HasPutElement (stood : Option Element) (element : Element) (old new : Zone) : Type 0 where
  pub was : HasElement element.elem_type element.name stood old
  pub rest : new ≡ record old { elements = new.elements }
  pub elements : IsPermutation new.elements (element ∷ elements_but element.elem_type element.name old.elements)

-- no element of the type and name
pub record HasRemovedElement (type : ElemType) (name : Text) (old new : Zone) : Type 0 where
  pub rest : new ≡ record old { elements = new.elements }
  pub elements : IsPermutation new.elements (elements_but type name old.elements)

-- if the tables held an inventory's rows, and its zone of this name changes in this way, they hold those of the new
-- inventory
abbrev pub ChangesZone : {S : Type 0} → Ghosts S → Held S → Held S → Text → (Zone → Zone → Type 0) → Type 0
ChangesZone g old new name Changes =
    (i j : Inventory) (was is : Zone) → IsZoneChange name was is i j → Changes was is
    → Leads g old new (HasContents store_schema (rows_of i)) (HasContents store_schema (rows_of j))

-- a zone with no entries
abbrev pub empty_zone : Text → ZoneKind → Text → Option Text → NamedZone
empty_zone name kind srel related = record {
  name = name;
  zone =
      record { kind = kind; srel = srel; related = related; entries = []; elements = [] };
}

-- if the tables held an inventory's rows, they hold those of the inventory that has one more zone, in any place
abbrev pub AddsZone : {S : Type 0} → Ghosts S → Held S → Held S → NamedZone → Type 0
AddsZone g old new zone =
    (global : Global) (before after : List NamedZone)
    → Leads g old new (HasContents store_schema (rows_of (record { global = global; zones = before ++ after })))
    (HasContents store_schema (rows_of (record { global = global; zones = before ++ zone ∷ after })))
