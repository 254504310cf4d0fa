-- What the tables hold of a name where they stand for an inventory.
use Rattle.std.proofs.Common.{◌≡◌, [], map, filter, Option, None, Some, IfSome, sym, ap, ◌∙◌}
use Rattle.std.specs.Prelude.{option_map}
use Rattle.std.specs.Option.{option_map_or, option_to_list}
use Rattle.std.specs.Prelude.{All}
use Rattle.sqlite_rules.specs.Lists.{Has}
use Rattle.sqlite_trees.proofs.ListLemmas.{flat_map_same_on}
use Rattle.store_rows.specs.Rows.{has_key}
use Rattle.store_rows.proofs.RowLemmas.{same_rows}
use Rattle.store_schema.proofs.UnderEach.{rows_under}
use Rattle.terms.specs.Types.{Text, Zone, NamedZone}
use Rattle.store_schema.specs.declared.schema.Schema.{Schema}
use Rattle.store_schema.specs.declared.schema.Schema.TheVariants.{First, Second, Third}
use Rattle.store_schema.specs.Inventory.{Inventory, IsInventory, IsZoneNamed}
use Rattle.store_schema.specs.Rows.{entry_row, zelem_row, chosen_of}
use Rattle.store_schema.specs.Tables.{zone, entry, zelem, chosen}
use Rattle.store_schema.proofs.WrittenLists.{has_all}
use Rattle.store_schema.proofs.OneState.{zones_rise}
use Rattle.store_zones.specs.Found.{head_in, zone_in}
use Rattle.store_zones.specs.Held.{name_key, rows_named, HoldsNumbers, HoldsUnder}
use Rattle.store_zones.specs.Numbered.{numbers_of}
use Rattle.store_zones.specs.Chosen.{number_row}
use Rattle.store_zones.specs.Entries.{IsFirst}
use Rattle.store_zones.specs.Heads.{head_row}
use Rattle.store_zones.proofs.BySchema.{AreFirst}
use Rattle.store_zones.proofs.Elements.{meets_element}
use Rattle.store_zones.proofs.Entries.{meets_entry, meets_number}
use Rattle.store_zones.proofs.Heads.{own_heads, head_forms}
use Rattle.store_zones.proofs.EntryNumbers.{number_rows}
use Rattle.store_zones.proofs.ZoneRows.{of_zone}
use Rattle.store_zones.proofs.Zones.{is_there}

module _ (i : Inventory) (h : IsInventory i) (name : Text) where
  abbrev found : Option Zone
  found = zone_in i name

  heads : (r : Schema) → rows_named name zone (rows_under r i) ≡ map head_row
      (option_to_list (option_map (head_in name) found))
  heads First = own_heads i h name
  heads Second = own_heads i h name
  heads Third = own_heads i h name

  entries : (r : Schema) → rows_named name entry (rows_under r i) ≡ map (entry_row name)
      (option_map_or (λ z. z.entries) found [])
  entries First = of_zone entry_row (λ z. z.entries) name (meets_entry name) i.zones (zones_rise i h)
  entries Second = of_zone entry_row (λ z. z.entries) name (meets_entry name) i.zones (zones_rise i h)
  entries Third = of_zone entry_row (λ z. z.entries) name (meets_entry name) i.zones (zones_rise i h)

  elements : (r : Schema) → rows_named name zelem (rows_under r i) ≡ map (zelem_row name)
      (option_map_or (λ z. z.elements) found [])
  elements First = of_zone zelem_row (λ z. z.elements) name (meets_element name) i.zones (zones_rise i h)
  elements Second = of_zone zelem_row (λ z. z.elements) name (meets_element name) i.zones (zones_rise i h)
  elements Third = of_zone zelem_row (λ z. z.elements) name (meets_element name) i.zones (zones_rise i h)

  numbers : rows_named name chosen (rows_under Third i) ≡ map (number_row name)
      (option_map_or (λ z. numbers_of z.entries) found [])
  numbers =
      ap (filter (has_key (name_key name)))
      (flat_map_same_on chosen_of (λ (z : NamedZone). map (number_row z.name) (numbers_of z.zone.entries))
      (λ z. number_rows z.name z.zone.entries) i.zones)
      ∙ of_zone number_row (λ z. numbers_of z.entries) name (meets_number name) i.zones (zones_rise i h)

  pub holds_found : (r : Schema) → AreFirst r i → HoldsUnder r (rows_under r i) name (zone_in i name)
  holds_found r firsts = go found (is_there i name) (heads r) (entries r) (elements r) numbers
    where
      its_numbers : (s : Schema) → AreFirst s i → (z : Zone) → Has i.zones (record { name = name; zone = z })
          → rows_named name chosen (rows_under Third i) ≡ map (number_row name) (numbers_of z.entries)
          → HoldsNumbers s (rows_under s i) (record { name = name; zone = z })
      its_numbers First firsts z there n = has_all (λ w. All IsFirst w.zone.entries) i.zones _ firsts there
      its_numbers Second firsts z there n = has_all (λ w. All IsFirst w.zone.entries) i.zones _ firsts there
      its_numbers Third firsts z there n = same_rows (number_rows name z.entries ∙ sym n)

      go : (o : Option Zone) → IfSome o (λ z. Has i.zones (record { name = name; zone = z }))
          → rows_named name zone (rows_under r i) ≡ map head_row (option_to_list (option_map (head_in name) o))
          → rows_named name entry (rows_under r i) ≡ map (entry_row name) (option_map_or (λ z. z.entries) o [])
          → rows_named name zelem (rows_under r i) ≡ map (zelem_row name) (option_map_or (λ z. z.elements) o [])
          → rows_named name chosen (rows_under Third i)
          ≡ map (number_row name) (option_map_or (λ z. numbers_of z.entries) o [])
          → HoldsUnder r (rows_under r i) name o
      go None there p q e n = p
      go (Some z) there p q e n = (
        its_numbers r firsts z there n,
        record {
          head = p;
          entries = same_rows (sym q);
          elements = same_rows (sym e);
          forms = has_all IsZoneNamed i.zones (record { name = name; zone = z }) h.zones there;
          related = (head_forms i h (record { name = name; zone = z }) there).related;
        },
      )
