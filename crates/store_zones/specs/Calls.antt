-- The statements that write zones, entries and elements.
use Rattle.std.specs.Prelude.{◌==◌, ℕ, Bool, List, [], ◌∷◌, ◌++◌, map, Option, is_some, if◌then◌else◌}
use Rattle.std.specs.List.{flat_map}
use Rattle.terms.specs.declared.kinds.ElemType.{ElemType}
use Rattle.terms.specs.Types.{Text, Id, Entry, Element, NamedZone}
use Rattle.zones_maps.specs.Delta.{number_of}
use Rattle.store_rows.specs.Calls.{Call, puts}
use Rattle.store_schema.specs.Rows.{zone_row, entry_row, chosen_row, chosen_in, zelem_row}
use Rattle.store_zones.specs.Chosen.{insert_chosen, insert_numbers, upsert_chosen, delete_chosen, number_before}
use Rattle.store_zones.specs.Elements.{insert_element, insert_elements, upsert_element, delete_element, element_key}
use Rattle.store_zones.specs.Entries.{insert_entry, insert_entries, upsert_entry, delete_entry, entry_key}
use Rattle.store_zones.specs.Heads.{insert_zone}

-- a zone is added
abbrev pub zone_calls : NamedZone → List Call
zone_calls zone = (insert_zone, zone_row zone) ∷ []

-- The number of the entry of this id becomes another. The number 1 has no row.
abbrev pub number_calls : Text → Id → ℕ → ℕ → List Call
number_calls zone id old new =
    if new == old then [] else if new == 1 then (delete_chosen, entry_key zone id) ∷ []
    else (if old == 1 then insert_chosen else upsert_chosen, chosen_row zone id new) ∷ []

-- New entries of the zone of this name come in, and then their numbers that are not 1.
abbrev pub insert_entries_calls : Text → List Entry → List Call
insert_entries_calls zone es =
    puts insert_entries insert_entry (map (entry_row zone) es)
    ++ puts insert_numbers insert_chosen (flat_map (chosen_in zone) es)

-- An entry of the zone of this name is put. The old one of its id, if there was one, was installed by this number.
abbrev pub upsert_entry_calls : Text → Option ℕ → Entry → List Call
upsert_entry_calls zone stood e =
    (if is_some stood then upsert_entry else insert_entry, entry_row zone e)
    ∷ number_calls zone e.id (number_before stood) (number_of e)

-- the entry of the id, if there was one, goes; it was installed by this number
abbrev pub remove_entry_calls : Text → Option ℕ → Id → List Call
remove_entry_calls zone stood id = (delete_entry, entry_key zone id) ∷ number_calls zone id (number_before stood) 1

-- new elements of the zone of this name come in
abbrev pub insert_elements_calls : Text → List Element → List Call
insert_elements_calls zone es = puts insert_elements insert_element (map (zelem_row zone) es)

-- an element of the zone of this name is put, whether or not there was an old one
abbrev pub upsert_element_calls : Text → Bool → Element → List Call
upsert_element_calls zone stood e = (if stood then upsert_element else insert_element, zelem_row zone e) ∷ []

abbrev pub remove_element_calls : Text → ElemType → Text → List Call
remove_element_calls zone type name = (delete_element, element_key zone type name) ∷ []
