-- What the zones of an inventory say of each other.
use Rattle.std.proofs.Common.{List, map, get_or, Option, None, Some, IfSome, arith, sym, ap, subst, ◌∙◌}
use Rattle.std.specs.List.{Any}
use Rattle.std.proofs.lemmas.List.{length-map}
use Rattle.std.proofs.lemmas.List.Elements.{All-map}
use Rattle.std.proofs.Math.ListN.{get_or-map}
use Rattle.terms.specs.declared.kinds.ZoneKind.{ZoneKind}
use Rattle.terms.specs.declared.kinds.ZoneKind.TheVariants.{Target, Distribution}
use Rattle.terms.specs.Types.{Text, NamedZone}
use Rattle.terms.proofs.Pairs.{pairs_map}
use Rattle.store_schema.specs.Inventory as inventory
use Rattle.store_schema.specs.Inventory.{Inventory, IsInventory, HasDistribution, IsRelated}
use Rattle.store_zones.specs.Found.{head_of}
use Rattle.store_zones.specs.Related.{IsDistributionOf, IsRelatedAmong, HeadsAreApart, AreRelated}

distribution : (zones : List NamedZone) (name srel : Text) → HasDistribution zones name srel
    → Any (IsDistributionOf name srel) (map head_of zones)
distribution zones name srel h =
    let z = h.0 in
    let k = h.1.0 in (
      k,
      head_of z,
      omega (arith, h.1.1, length-map zones head_of),
      get_or-map head_of zones k z
          ∙ ap head_of h.1.2,
      (h.2, h.3, h.4),
    )

related_among : (zones : List NamedZone) (kind : ZoneKind) (srel : Text) (related : Option Text)
    → IsRelated zones kind srel related → IfSome related (λ name. Any (IsDistributionOf name srel) (map head_of zones))
related_among zones Target srel None r = absurd r
related_among zones Target srel (Some name) r = distribution zones name srel r
related_among zones Distribution srel related r = subst (λ o.
    IfSome o (λ name. Any (IsDistributionOf name srel) (map head_of zones))) (sym r) tt

pub heads_related : (i : Inventory) → IsInventory i → AreRelated (map head_of i.zones)
heads_related i h = record {
  related = All-map (IsRelatedAmong (map head_of i.zones)) head_of i.zones
      (λ k d within. let z = get_or i.zones k d in related_among i.zones z.zone.kind z.zone.srel z.zone.related
      (h.related k d within));
  apart = pairs_map inventory.AreApart HeadsAreApart head_of (λ a b apart. apart) i.zones h.apart;
}
