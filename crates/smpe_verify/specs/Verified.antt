-- What is found of an inventory's zones.
use Rattle.std.specs.Prelude.{◌≡◌, ◌+◌, List, [], ◌∷◌, length, sum_by, Option, option_map, unwrap_or}
use Rattle.std.specs.Prelude.{option_and_then}
use Rattle.std.specs.Option.{option_map_or}
use Rattle.sqlite.specs.Store.{Ghosts}
use Rattle.sqlite.specs.Held.{Held}
use Rattle.terms.specs.Types.{Text, Global, Zone, NamedZone}
use Rattle.terms.specs.Choice.{counting}
use Rattle.store_schema.specs.Inventory.{Inventory}
use Rattle.store_zones.specs.declared.head.ZoneHead.{ZoneHead}
use Rattle.store_zones.specs.Found.{zone_in}
use Rattle.store.specs.View.{Tables}
use Rattle.smpe_verify.specs.declared.breach.Breach.{Breach}
use Rattle.smpe_verify.specs.declared.verification.Counts.{Counts}
use Rattle.smpe_verify.specs.declared.verification.Verification.{Verification}
use Rattle.smpe_verify.specs.declared.verification.Verification.TheVariants.{Closed, Broken}
use Rattle.smpe_verify.specs.FirstBreach.{first_of, first_breach}

-- the first breach of a zone, by the ++VERs that count in it
abbrev pub breach_in : Global → Zone → Option Breach
breach_in g zone = first_breach g (counting g zone []) zone

-- the zone, if it is not closed, and its first breach
abbrev pub broken : Global → NamedZone → Option Verification
broken g z = option_map (Broken z.name) (breach_in g z.zone)

-- the received SYSMODs, the zones, and all their entries and elements
abbrev pub counts_of : Inventory → Counts
counts_of i = record {
  sysmods = length i.global.sysmods;
  zones = length i.zones;
  entries = sum_by (λ z. length z.zone.entries) i.zones;
  elements = sum_by (λ z. length z.zone.elements) i.zones;
}

-- the first zone by name that is not closed, or the counts if all are
abbrev pub verification : Inventory → Verification
verification i = unwrap_or (first_of (broken i.global) i.zones) (Closed (counts_of i))

-- If all zones are closed, the tables stand for an inventory.
abbrev pub StandsIfClosed : {S : Type 0} → Ghosts S → Held S → Verification → Type 0
StandsIfClosed g at (Closed counts) = (i : Inventory) × Tables g at i
StandsIfClosed g at (Broken name breach) = Unit {0}

-- ---- zone by zone

-- the received SYSMODs and the zones of these heads, before any zone is loaded
abbrev pub begun : Global → List ZoneHead → Counts
begun g heads = record { sysmods = length g.sysmods; zones = length heads; entries = 0; elements = 0 }

-- the counts with those of one more zone
abbrev pub with_zone : Counts → Zone → Counts
with_zone counts zone = record counts {
  entries = counts.entries + length zone.entries;
  elements = counts.elements + length zone.elements;
}

abbrev pub IsCounted : Zone → Counts → Counts → Type 0
IsCounted zone old new = new ≡ with_zone old zone

-- the same for the zone of a name, if there is one
abbrev pub counted : Inventory → Counts → Text → Counts
counted i counts name = option_map_or (with_zone counts) (zone_in i name) counts

abbrev pub breach_at : Inventory → Global → Text → Option Breach
breach_at i g name = option_and_then (breach_in g) (zone_in i name)

-- what is found from these heads on, after these counts
abbrev pub verified_from : Inventory → Counts → List ZoneHead → Verification
verified_from i counts [] = Closed counts
verified_from i counts (head ∷ heads) =
    unwrap_or (option_map (Broken head.name) (breach_at i i.global head.name))
    (verified_from i (counted i counts head.name) heads)
