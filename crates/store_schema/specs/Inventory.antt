-- What the tables hold, and its invariants (SMP/E Reference: the zones of a CSI and their entries).
use Rattle.std.specs.Prelude.{◌≡◌, ◌≢◌, List, [], map, All, AllPairs, Contains, IfSome, Option, None, Some, codes}
use Rattle.terms.specs.declared.kinds.ZoneKind.{ZoneKind}
use Rattle.terms.specs.declared.kinds.ZoneKind.TheVariants.{Target, Distribution}
use Rattle.terms.specs.Types.{Text, Global, NamedZone}
use Rattle.terms.specs.Lookups.{IsRising, IsZone}
use Rattle.terms.specs.Global.{IsGlobal}
use Rattle.terms.specs.Forms.{IsZoneName}
use Rattle.store_schema.specs.Forms.{HasSysmodForms, HasHoldForms, HasZoneForms}

-- the global zone, and the target and distribution zones
pub record Inventory : Type 0 where
  pub global : Global
  pub zones : List NamedZone

abbrev pub empty_inventory : Inventory
empty_inventory = record { global = record { sysmods = []; holds = [] }; zones = [] }

-- the distribution zone of this name and SREL is among the zones
abbrev pub HasDistribution : List NamedZone → Text → Text → Type 0
HasDistribution zones name srel =
    (z : NamedZone) × Contains zones z × (z.name ≡ name) × (z.zone.kind ≡ Distribution) × (z.zone.srel ≡ srel)

-- A target zone names a distribution zone of its SREL. A distribution zone names none.
abbrev pub IsRelated : List NamedZone → ZoneKind → Text → Option Text → Type 0
IsRelated zones Target srel None = ⊥
IsRelated zones Target srel (Some name) = HasDistribution zones name srel
IsRelated zones Distribution srel related = related ≡ None

-- no zone names the related zone of another one
abbrev pub AreApart : NamedZone → NamedZone → Type 0
AreApart a b = IfSome a.zone.related (λ name. b.zone.related ≢ Some name)

-- a single zone: it has a name of its own, and its entries are in order
pub record IsZoneNamed (z : NamedZone) : Type 0 where
  pub name : IsZoneName z.name
  pub not_global : z.name ≢ codes "GLOBAL"
  pub forms : HasZoneForms z.zone
  pub zone : IsZone z.zone

-- the invariants of the global zone, of each zone, and between zones, which rise by name
pub record IsInventory (i : Inventory) : Type 0 where
  pub global : IsGlobal i.global
  pub sysmods : All HasSysmodForms i.global.sysmods
  pub holds : All HasHoldForms i.global.holds
  pub names : IsRising (map (λ z. z.name) i.zones)
  pub zones : All IsZoneNamed i.zones
  pub related : All (λ z. IsRelated i.zones z.zone.kind z.zone.srel z.zone.related) i.zones
  pub apart : AllPairs AreApart i.zones
