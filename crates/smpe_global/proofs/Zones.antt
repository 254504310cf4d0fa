-- A map that finds under each name the zone of that name.
use Rattle.std.proofs.Common.{◌≡◌, ◌∙◌, ◌||◌, Bool, true, false, List, [], ◌∷◌, refl, sym, ap, subst, Option, None}
use Rattle.std.proofs.Common.{Some, Contains, true≢false, find}
use Rattle.std.specs.List.{list_any}
use Rattle.std.specs.Ordering.{nat_cmp}
use Rattle.std.specs.Option.{option_map}
use Rattle.std.specs.Str.{bytes_eq}
use Rattle.std.specs.Cmp.Lexicographic.{slice_cmp, texts_ties}
use Rattle.std.proofs.lemmas.Cmp.{nat_list_cmp_total, nat_list_eq_equiv, tied_itself}
use Rattle.std.proofs.lemmas.List.Folds.{list_any_at}
use Rattle.std.proofs.lemmas.Map.Views.{hash_map_get_iff}
use Rattle.terms.proofs.Searches.{list_any_map}
use Rattle.indexmap.specs.IndexMap.{IndexMap, get, values, IsUnique}
use Rattle.terms.specs.Types.{Text, Id, Zone, NamedZone}
use Rattle.terms.specs.Rising.{Rises}
use Rattle.terms.specs.Lookups.{is_applied}
use Rattle.terms.proofs.ListMembers.{here, there, parts}
use Rattle.terms.proofs.TextOrder.{same_from}
use Rattle.terms.proofs.RisingLists.{Splits_around, find_there}
use Rattle.machine.specs.State.{zone_named}
use Rattle.smpe_global.specs.Rejections.{AppliesAlike}
use Rattle.terms.proofs.Booleans.{same_truth}

module _ {X : Type 0} (p : X → Bool) where
  passing : (xs : List X) → list_any p xs ≡ true → (x : X) × Contains xs x × (p x ≡ true)
  passing [] e = absurd (true≢false (sym e))
  passing (x ∷ xs) e = by (passing xs) (p x) refl
    where
      by : (list_any p xs ≡ true → (y : X) × Contains xs y × (p y ≡ true)) → (b : Bool) → p x ≡ b
          → (y : X) × Contains (x ∷ xs) y × (p y ≡ true)
      by again true f = (x, here x xs, f)
      by again false f = let later = again (sym (ap (λ b. b || list_any p xs) f) ∙ e)
          in (later.0, there x xs later.0 later.1, later.2)

  any_member : (xs : List X) (x : X) → Contains xs x → p x ≡ true → list_any p xs ≡ true
  any_member xs x h e = list_any_at p xs h.0 x h.1 (ap p h.2 ∙ e)

  found_member : (xs : List X) (x : X) → find p xs ≡ Some x → Contains xs x
  found_member [] x e = absurd (none e)
    where
      none : None ≡ Some x → ⊥
      none e = cc
  found_member (y ∷ xs) x e = by (found_member xs x) (p y) refl
    where
      by : (find p xs ≡ Some x → Contains xs x) → (b : Bool) → p y ≡ b → Contains (y ∷ xs) x
      by again true f = let now = rw f at e in let same : y ≡ x = cc in subst (Contains (y ∷ xs)) same (here y xs)
      by again false f = let now = rw f at e in there y xs x (again now)

-- what a mapped search finds
found_mapped : {X Y : Type 0} (f : X → Y) (o : Option X) (y : Y) → option_map f o ≡ Some y
    → (x : X) × (o ≡ Some x) × (f x ≡ y)
found_mapped f None y e = absurd (none e)
  where
    none : None ≡ Some y → ⊥
    none e = cc
found_mapped f (Some x) y e = (x, refl, cc)

module _ {S : Type 0} (zones : IndexMap Text Zone S) (named : List NamedZone) (unique : IsUnique bytes_eq zones)
    (rises : Rises (slice_cmp nat_cmp) (λ (z : NamedZone). z.name) named)
    (same : (name : Text) → get bytes_eq zones name ≡ zone_named named name) where
  named_found : (z : NamedZone) → Contains named z → zone_named named z.name ≡ Some z.zone
  named_found z h =
      let at = parts named z h in
      let tie = tied_itself nat_list_cmp_total z.name in
      ap (option_map (λ (y : NamedZone). y.zone)) (
      ap (find (λ y. bytes_eq y.name z.name)) at.2
      ∙ find_there nat_list_cmp_total (λ (y : NamedZone). y.name) bytes_eq texts_ties z.name at.0 at.1 z
      (Splits_around nat_list_cmp_total (λ (y : NamedZone). y.name) z.name at.0 at.1 z
      (subst (Rises (slice_cmp nat_cmp) (λ (y : NamedZone). y.name)) at.2 rises) tie) tie
      )

  in_map : (name : Text) (zone : Zone) → get bytes_eq zones name ≡ Some zone → Contains zones.entries (name, zone)
  in_map name zone = (hash_map_get_iff nat_list_eq_equiv same_from zones unique name zone).0

  from_map : (name : Text) (zone : Zone) → Contains zones.entries (name, zone) → get bytes_eq zones name ≡ Some zone
  from_map name zone = (hash_map_get_iff nat_list_eq_equiv same_from zones unique name zone).1

  module _ (x : Id) where
    abbrev listed : NamedZone → Bool
    listed z = is_applied z.zone x

    abbrev stored : Text × Zone → Bool
    stored e = is_applied e.1 x

    each : list_any (λ zone. is_applied zone x) (values zones) ≡ list_any stored zones.entries
    each = list_any_map (λ zone. is_applied zone x) (λ (e : Text × Zone). e.1) zones.entries

    to_map : list_any listed named ≡ true → list_any (λ zone. is_applied zone x) (values zones) ≡ true
    to_map e =
        let z = passing listed named e in
        each ∙ any_member stored zones.entries (z.0.name, z.0.zone)
        (in_map z.0.name z.0.zone (same z.0.name ∙ named_found z.0 z.1)) z.2

    to_list : list_any (λ zone. is_applied zone x) (values zones) ≡ true → list_any listed named ≡ true
    to_list e =
        let m = passing stored zones.entries (sym each ∙ e) in
        let f = found_mapped (λ (z : NamedZone). z.zone) (find (λ z. bytes_eq z.name m.0.0) named) m.0.1
        (sym (same m.0.0) ∙ from_map m.0.0 m.0.1 m.1) in
        any_member listed named f.0 (found_member (λ z. bytes_eq z.name m.0.0) named f.0 f.1)
        (ap (λ zone. is_applied zone x) f.2 ∙ m.2)

  -- Where the map and the list find the same zones under all names, the same ids are applied in them.
  pub applies_alike : AppliesAlike zones named
  applies_alike x = same_truth (list_any (λ z. is_applied z.zone x) named)
      (list_any (λ zone. is_applied zone x) (values zones)) (to_map x) (to_list x)
