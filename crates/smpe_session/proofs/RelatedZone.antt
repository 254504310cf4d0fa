-- The target zone that is related to a distribution zone, found by its head.
use Rattle.std.proofs.Common.{◌≡◌, ◌≢◌, ◌∙◌, Bool, true, false, List, [], ◌∷◌, Option, Some, None, map}
use Rattle.std.proofs.Common.{refl, sym, ap, subst}
use Rattle.std.specs.Prelude.{find, option_map}
use Rattle.std.specs.Option.{option_map_or}
use Rattle.std.specs.Str.{bytes_eq}
use Rattle.indexmap.specs.IndexMap.{get}
use Rattle.terms.specs.declared.kinds.ZoneKind.{ZoneKind}
use Rattle.terms.specs.declared.kinds.ZoneKind.TheVariants.{Target, Distribution}
use Rattle.terms.specs.Types.{Text, NamedZone}
use Rattle.terms.proofs.Searches.{find_gives}
use Rattle.store_schema.specs.Inventory.{IsInventory}
use Rattle.store_zones.specs.declared.head.ZoneHead.{ZoneHead}
use Rattle.store_zones.specs.Found.{head_of}
use Rattle.machine.specs.State.{State, zone_named, target_of}
use Rattle.store.specs.Kept.{kept}
use Rattle.smpe_session.specs.declared.session.Session.{Session}
use Rattle.smpe_session.specs.Sessions.{IsSessionOf}
use Rattle.smpe_session.specs.KnownZones.{IsSought}
use Rattle.smpe_session.specs.Places.{HasRelated}
use Rattle.smpe_session.proofs.StateZones.{its_own, sought_held}

-- an item found among what is made of items
find_made : {X Y : Type 0} (p : Y → Bool) (f : X → Y) (xs : List X)
    → find p (map f xs) ≡ option_map f (find (λ x. p (f x)) xs)
find_made p f [] = refl
find_made p f (x ∷ xs) = by (find_made p f xs) (p (f x)) refl
  where
    by : find p (map f xs) ≡ option_map f (find (λ y. p (f y)) xs) → (b : Bool) → p (f x) ≡ b
        → find p (map f (x ∷ xs)) ≡ option_map f (find (λ y. p (f y)) (x ∷ xs))
    by rest true e = rw e refl
    by rest false e = rw e rest

abbrev names_it : Text → NamedZone → Bool
names_it name z = option_map_or (bytes_eq name) z.zone.related false

abbrev names_head : Text → ZoneHead → Bool
names_head name h = option_map_or (bytes_eq name) h.related false

abbrev target_in : Text → List NamedZone → Option NamedZone
target_in name zones = find (names_it name) zones

-- the name by the heads is that of the zone
name_is : (name : Text) (zones : List NamedZone) (heads : List ZoneHead) (found : Option Text)
    → heads ≡ map head_of zones
    → found ≡ option_map (λ h. h.name) (find (λ h. option_map_or (bytes_eq name) h.related false) heads)
    → found ≡ option_map (λ z. z.name) (target_in name zones)
name_is name zones heads found are is =
    is
    ∙ ap (λ hs. option_map (λ (h : ZoneHead). h.name) (find (names_head name) hs)) are
    ∙ ap (option_map (λ (h : ZoneHead). h.name)) (find_made (λ (h : ZoneHead).
    option_map_or (bytes_eq name) h.related false) head_of zones)
    ∙ by (target_in name zones)
  where
    by : (z : Option NamedZone) → option_map (λ (h : ZoneHead). h.name) (option_map head_of z)
        ≡ option_map (λ (z : NamedZone). z.name) z
    by None = refl
    by (Some z) = refl

-- where the boundary is at no zone, nothing is looked for
pub related_nowhere : (s : State) (at : Session) → IsSessionOf s at → at.boundary ≡ None
    → HasRelated s at Distribution None
related_nowhere s at is none = record {
  session = is;
  is_related = λ name named. absurd (cc (sym named ∙ sym is.boundary ∙ none));
}

pub not_target : {s : State} {at : Session} {related : Option Text} (kind : ZoneKind) → kind ≢ Target
    → HasRelated s at Distribution related → HasRelated s at kind related
not_target Target other has = absurd (other refl)
not_target Distribution other has = has

pub related_target : (s : State) (at : Session) → IsSessionOf s at → HasRelated s at Target None
related_target s at is = record { session = is; is_related = λ name named. refl }

module _ (s : State) (name : Text) (boundary : s.boundary ≡ Some name) (heads : List ZoneHead)
    (are : heads ≡ map head_of s.zones) where
  abbrev Found : Option Text → Type 0
  Found found = found ≡ option_map (λ h. h.name) (find (λ h. option_map_or (bytes_eq name) h.related false) heads)

  of_boundary : (q : Text) → s.boundary ≡ Some q → name ≡ q
  of_boundary q bound = cc (sym boundary ∙ bound)

  -- no zone names it
  pub related_none : (at : Session) → IsSessionOf s at → Found None → HasRelated s at Distribution None
  related_none at is found = record {
    session = is;
    is_related = λ q bound. subst (λ n. None ≡ target_of s.zones n) (of_boundary q bound)
        (by (target_in name s.zones) refl (name_is name s.zones heads None are found));
  }
    where
      by : (z : Option NamedZone) → target_in name s.zones ≡ z → None ≡ option_map (λ (z : NamedZone). z.name) z
          → None ≡ target_of s.zones name
      by None at none = sym (ap (option_map (λ (z : NamedZone). z.zone)) at)
      by (Some z) at none = absurd (cc none)

  -- one does, and was sought
  pub related_some : (at : Session) (related : Text) (answer : Bool) → IsInventory (kept s) → Found (Some related)
      → IsSought s at related answer → HasRelated s at Distribution (Some related)
  related_some at related answer inventory found sought = record {
    session = sought.session;
    is_related = λ q bound. subst (λ n. get bytes_eq at.zones related ≡ target_of s.zones n) (of_boundary q bound)
        (by (target_in name s.zones) refl (name_is name s.zones heads (Some related) are found));
  }
    where
      by : (z : Option NamedZone) → target_in name s.zones ≡ z → Some related ≡ option_map (λ (z : NamedZone). z.name) z
          → get bytes_eq at.zones related ≡ target_of s.zones name
      by None e is = absurd (cc is)
      by (Some z) e is =
          let same : related ≡ z.name = cc is in
          let there = find_gives (names_it name) s.zones z e in
          sought_held s inventory at related answer sought z.zone
          (ap (zone_named s.zones) same ∙ its_own s inventory z there.1)
          ∙ sym (ap (option_map (λ (z : NamedZone). z.zone)) e)
