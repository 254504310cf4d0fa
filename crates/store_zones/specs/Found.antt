-- What is found of the zones of an inventory.
use Rattle.std.specs.Prelude.{◌≡◌, List, All, IsTrue, find, Option, is_some, option_map}
use Rattle.std.specs.Str.{bytes_eq}
use Rattle.terms.specs.declared.kinds.ZoneKind.{ZoneKind}
use Rattle.terms.specs.Lookups.{has_content, waives_applied}
use Rattle.terms.specs.Types.{Text, Entry, Zone, NamedZone, is_target}
use Rattle.store_schema.specs.Inventory.{Inventory}
use Rattle.store_zones.specs.declared.head.ZoneHead.{ZoneHead}

-- the zone of this name
abbrev pub zone_in : Inventory → Text → Option Zone
zone_in i name = option_map (λ z. z.zone) (find (λ z. bytes_eq z.name name) i.zones)

-- all of a zone except its entries and elements
abbrev pub head_in : Text → Zone → ZoneHead
head_in name zone = record { name = name; kind = zone.kind; srel = zone.srel; related = zone.related }

abbrev pub head_of : NamedZone → ZoneHead
head_of z = head_in z.name z.zone

-- what a zone demands of its parts: no entry is empty, none waives requisites without being applied, and only a target
-- zone names a related zone
abbrev pub MayBeZone : ZoneKind → Option Text → List Entry → Type 0
MayBeZone kind related entries =
    All (λ e. IsTrue (has_content e)) entries × All (λ e. IsTrue (waives_applied e)) entries
    × (is_some related ≡ is_target kind)
