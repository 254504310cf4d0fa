-- A zone that changes, and a zone that is added, lead from an inventory to an inventory.
use Rattle.std.proofs.Common.{◌≡◌, ◌≢◌, ◌⊎◌, suc, zero, Bool, true, false, List, [], ◌∷◌, ◌++◌, map, Option, Some, None}
use Rattle.std.proofs.Common.{All, AllPairs, Contains, IsTrue, IfSome, refl, sym, ◌∙◌, ap, subst, inl, inr, arith}
use Rattle.std.specs.Prelude.{find, option_map, if◌then◌else◌}
use Rattle.std.specs.List.{AllByRecursion}
use Rattle.std.specs.Str.{bytes_eq}
use Rattle.std.specs.Ordering.{nat_cmp}
use Rattle.std.specs.Cmp.Lexicographic.{slice_cmp}
use Rattle.std.proofs.lemmas.Cmp.{nat_list_cmp_total, tied_itself}
use Rattle.std.proofs.lemmas.List.Elements.{All-from_recursion, recursion_from_All}
use Rattle.std.proofs.lemmas.Option.{same_Some}
use Rattle.terms.proofs.ListMembers.{in_middle}
use Rattle.terms.specs.declared.kinds.ZoneKind.{ZoneKind}
use Rattle.terms.specs.declared.kinds.ZoneKind.TheVariants.{Target, Distribution}
use Rattle.terms.specs.Types.{Text, Zone, NamedZone}
use Rattle.terms.specs.Lookups.{is_before, IsRising, IsZone}
use Rattle.terms.specs.Rising.{Rises, with_item}
use Rattle.terms.proofs.Pairs.{pairs_map, pairs_unmap}
use Rattle.terms.proofs.Each.{recursion_weaker}
use Rattle.terms.proofs.TextOrder.{same_from}
use Rattle.terms.proofs.RisingLists.{with_item_there}
use Rattle.store_schema.specs.Forms.{HasZoneForms}
use Rattle.store_schema.specs.Inventory.{Inventory, IsInventory, IsZoneNamed, HasDistribution, IsRelated, AreApart}
use Rattle.machine.specs.State.{zone_named}

-- the zone of this name stands somewhere among the zones
pub record StandsAmong (zones : List NamedZone) (name : Text) (zone : Zone) : Type 0 where
  pub before : List NamedZone
  pub after : List NamedZone
  pub zones_are : zones ≡ before ++ record { name = name; zone = zone } ∷ after

same_zone : (z : NamedZone) (name : Text) (zone : Zone) → z.name ≡ name → z.zone ≡ zone
    → z ≡ record { name = name; zone = zone }
same_zone z name zone n e = ap (λ t. record { name = t; zone = z.zone }) n
    ∙ ap (λ y. record { name = name; zone = y }) e

pub stands_among : (zones : List NamedZone) (name : Text) (zone : Zone) → zone_named zones name ≡ Some zone
    → StandsAmong zones name zone
stands_among [] name zone e = absurd (cc e)
stands_among (z ∷ zs) name zone e = by (bytes_eq z.name name) refl (λ rest. stands_among zs name zone rest)
  where
    by : (b : Bool) → bytes_eq z.name name ≡ b → (zone_named zs name ≡ Some zone → StandsAmong zs name zone)
        → StandsAmong (z ∷ zs) name zone
    by true same later =
        let is : Some z.zone ≡ Some zone = subst (λ b. option_map (λ y. y.zone)
        (if b then Some z else find (λ y. bytes_eq y.name name) zs) ≡ Some zone) same e in
        record {
          before = [];
          after = zs;
          zones_are = ap (λ y. y ∷ zs)
              (same_zone z name zone (same_from z.name name same) (same_Some z.zone zone is));
        }
    by false other later =
        let rest = later (subst (λ b. option_map (λ y. y.zone)
        (if b then Some z else find (λ y. bytes_eq y.name name) zs) ≡ Some zone) other e) in
        record { before = z ∷ rest.before; after = rest.after; zones_are = ap (λ ys. z ∷ ys) rest.zones_are }

-- One zone becomes another, of the same name, kind, SREL and related zone.
module _ (before after : List NamedZone) (old new : NamedZone) where
  mapped_same : {Y : Type 0} (f : NamedZone → Y) → f old ≡ f new → (front : List NamedZone)
      → map f (front ++ old ∷ after) ≡ map f (front ++ new ∷ after)
  mapped_same f same [] = ap (λ y. y ∷ map f after) same
  mapped_same f same (z ∷ zs) = ap (λ ys. f z ∷ ys) (mapped_same f same zs)

  all_changed : (P : NamedZone → Type 0) (front : List NamedZone) → AllByRecursion P (front ++ old ∷ after) → P new
      → AllByRecursion P (front ++ new ∷ after)
  all_changed P [] h is = (is, h.1)
  all_changed P (z ∷ zs) h is = (h.0, all_changed P zs h.1 is)

  middle_of : (P : NamedZone → Type 0) (front : List NamedZone) → AllByRecursion P (front ++ old ∷ after) → P old
  middle_of P [] h = h.0
  middle_of P (z ∷ zs) h = middle_of P zs h.1

  others_stand : (front : List NamedZone) (y : NamedZone) → Contains (front ++ old ∷ after) y
      → Contains (front ++ new ∷ after) y ⊎ (y ≡ old)
  others_stand [] y (zero, below, at) = inr (sym at)
  others_stand [] y (suc k, below, at) = inl (suc k, below, at)
  others_stand (z ∷ zs) y (zero, below, at) = inl (0, omega arith, at)
  others_stand (z ∷ zs) y (suc k, below, at) = elim (others_stand zs y (k, omega (arith, below), at)) [
    | inl there ↦ inl (suc there.0, omega (arith, there.1), there.2)
    | inr is ↦ inr is
  ]

  -- the new zone is good by itself, and differs from the old one in its entries and elements alone
  module _ (name : old.name ≡ new.name) (kind : old.zone.kind ≡ new.zone.kind) (srel : old.zone.srel ≡ new.zone.srel)
      (related : old.zone.related ≡ new.zone.related) where
    distribution : (of of_srel : Text) → HasDistribution (before ++ old ∷ after) of of_srel
        → HasDistribution (before ++ new ∷ after) of of_srel
    distribution of of_srel (z, there, named, is, has) = elim (others_stand before z there) [
      | inl stands ↦ (z, stands, named, is, has)
      | inr same ↦ (
        new,
        in_middle before new after,
        sym name ∙ ap (λ y. y.name) (sym same) ∙ named,
        sym kind
            ∙ ap (λ y. y.zone.kind) (sym same) ∙ is,
        sym srel ∙ ap (λ y. y.zone.srel) (sym same) ∙ has,
      )
    ]

    relates : (of : ZoneKind) (of_srel : Text) (to : Option Text) → IsRelated (before ++ old ∷ after) of of_srel to
        → IsRelated (before ++ new ∷ after) of of_srel to
    relates Target of_srel None is = is
    relates Target of_srel (Some to) is = distribution to of_srel is
    relates Distribution of_srel to is = is

    relates_each : (z : NamedZone) → IsRelated (before ++ old ∷ after) z.zone.kind z.zone.srel z.zone.related
        → IsRelated (before ++ new ∷ after) z.zone.kind z.zone.srel z.zone.related
    relates_each z = relates z.zone.kind z.zone.srel z.zone.related

    -- what relates the names of related zones
    abbrev Differ : Option Text → Option Text → Type 0
    Differ a b = IfSome a (λ of. b ≢ Some of)

    pub zones_kept : (i : Inventory) → i.zones ≡ before ++ old ∷ after → IsZoneNamed new → IsInventory i
        → IsInventory (record i { zones = before ++ new ∷ after })
    zones_kept i zones_are good is =
        let zones = subst (λ zs. All IsZoneNamed zs) zones_are is.zones in
        let names = subst (λ zs. IsRising (map (λ z. z.name) zs)) zones_are is.names in
        let each_related = subst (λ zs. All (λ (z : NamedZone). IsRelated zs z.zone.kind z.zone.srel z.zone.related) zs)
        zones_are is.related in
        let each_apart = subst (λ zs. AllPairs AreApart zs) zones_are is.apart in
        let R : NamedZone → Type 0 = λ z. IsRelated (before ++ new ∷ after) z.zone.kind z.zone.srel z.zone.related in
        let still = recursion_weaker (λ z. IsRelated (before ++ old ∷ after) z.zone.kind z.zone.srel z.zone.related) R
        relates_each (before ++ old ∷ after) (recursion_from_All _ _ each_related) in
        record {
          global = is.global;
          sysmods = is.sysmods;
          holds = is.holds;
          names = subst IsRising (mapped_same (λ z. z.name) name before) names;
          zones = All-from_recursion IsZoneNamed (before ++ new ∷ after)
              (all_changed IsZoneNamed before (recursion_from_All IsZoneNamed (before ++ old ∷ after) zones) good);
          related = All-from_recursion R (before ++ new ∷ after) (all_changed R before still
              (subst (λ k. IsRelated (before ++ new ∷ after) k new.zone.srel new.zone.related) kind
              (subst (λ t. IsRelated (before ++ new ∷ after) old.zone.kind t new.zone.related) srel
              (subst (λ t. IsRelated (before ++ new ∷ after) old.zone.kind old.zone.srel t) related
              (middle_of R before still)))));
          apart = pairs_unmap AreApart Differ (λ z. z.zone.related) (λ a b differ. differ) (before ++ new ∷ after)
              (subst (λ rs. AllPairs Differ rs) (mapped_same (λ z. z.zone.related) related before)
              (pairs_map AreApart Differ (λ z. z.zone.related) (λ a b differ. differ) (before ++ old ∷ after)
              each_apart));
        }

-- A zone's new entries and elements lead from an inventory to one.
pub zone_kept : (i : Inventory) (name : Text) (old new : Zone) → IsInventory i → zone_named i.zones name ≡ Some old
    → new ≡ record old { entries = new.entries; elements = new.elements } → IsZone new → HasZoneForms new
    → IsInventory (record i {
      zones = with_item (slice_cmp nat_cmp) (λ (z : NamedZone). z.name) i.zones
          (record { name = name; zone = new });
    })
zone_kept i name old new is found rest zone forms =
    let at = stands_among i.zones name old found in
    let was : NamedZone = record { name = name; zone = old } in
    let now : NamedZone = record { name = name; zone = new } in
    let rising = subst (λ zs. Rises (slice_cmp nat_cmp) (λ (z : NamedZone). z.name) zs) at.zones_are
    (pairs_unmap (λ (a b : NamedZone). IsTrue (is_before a.name b.name)) (λ (x y : Text). IsTrue (is_before x y))
    (λ z. z.name) (λ a b lower. lower) i.zones is.names) in
    let put = ap (λ zs. with_item (slice_cmp nat_cmp) (λ (z : NamedZone). z.name) zs now) at.zones_are
    ∙ with_item_there nat_list_cmp_total (λ (z : NamedZone). z.name) at.before at.after now was rising
    (tied_itself nat_list_cmp_total name) in
    let named = middle_of at.before at.after was was IsZoneNamed at.before
    (recursion_from_All IsZoneNamed (at.before ++ was ∷ at.after)
    (subst (λ zs. All IsZoneNamed zs) at.zones_are is.zones)) in
    subst (λ zs. IsInventory (record i { zones = zs })) (sym put)
    (zones_kept at.before at.after was now refl (sym (ap (λ z. z.kind) rest)) (sym (ap (λ z. z.srel) rest))
    (sym (ap (λ z. z.related) rest)) i at.zones_are
    (record { name = named.name; not_global = named.not_global; forms = forms; zone = zone }) is)
