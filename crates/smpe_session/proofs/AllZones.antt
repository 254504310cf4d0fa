-- A session that has sought each zone of the state.
use Rattle.std.proofs.Common.{◌≡◌, ◌⊎◌, ◌∙◌, ◌<◌, ◌+◌, ℕ, Bool, true, false, List, [], ◌∷◌, All, Option, Some, None}
use Rattle.std.proofs.Common.{map, take, length, get_or, IsTrue, refl, sym, ap, subst, inl, inr}
use Rattle.std.specs.Prelude.{IsSome, is_some, find, option_map}
use Rattle.std.specs.List.{AllByRecursion}
use Rattle.std.specs.Str.{bytes_eq}
use Rattle.std.proofs.lemmas.List.Elements.{All-more, All-weaker, recursion_from_All}
use Rattle.indexmap.specs.IndexMap.{get, IsUnique}
use Rattle.terms.specs.Types.{Text, Zone, NamedZone}
use Rattle.terms.specs.Lookups.{is_before}
use Rattle.terms.proofs.Pairs.{pairs_unmap}
use Rattle.terms.proofs.TextOrder.{same_from}
use Rattle.terms.proofs.Searches.{find_gives}
use Rattle.store_schema.specs.Inventory.{IsInventory}
use Rattle.machine.specs.State.{State, global_name, zone_named}
use Rattle.smpe_global.specs.Rejections.{AppliesAlike}
use Rattle.smpe_global.proofs.Zones.{applies_alike}
use Rattle.store.specs.Kept.{kept}
use Rattle.smpe_session.specs.declared.session.Session.{Session}
use Rattle.smpe_session.specs.KnownZones.{is_known, IsSought, AreSought, HasAllZones}
use Rattle.smpe_session.proofs.Places.{none_global}
use Rattle.std.proofs.lemmas.Bool.{or_right}

abbrev IsHere : State → Session → Text → Type 0
IsHere s at name = IsTrue (is_known s.zones name) → (name ≡ global_name) ⊎ IsSome (get bytes_eq at.zones name)

-- one name more
pub sought_more : (s : State) (at new : Session) (names : List Text) (i : ℕ) (name : Text) (answer : Bool)
    → i < length names → name ≡ get_or names i name
    → ((q : Text) → IsSome (get bytes_eq at.zones q) → IsSome (get bytes_eq new.zones q))
    → AreSought s at (take i names) → IsSought s new name answer
    → AreSought s new (take (i + 1) names)
sought_more s at new names i name answer below is stay before sought = record {
  session = sought.session;
  here = All-more (IsHere s new) names i name below
      (All-weaker (IsHere s at) (IsHere s new) later (take i names) before.here)
      (subst (IsHere s new) is (λ known. sought.here (sought.found ∙ known)));
}
  where
    later : (q : Text) → IsHere s at q → IsHere s new q
    later q here known = elim (here known) [
      | inl same ↦ inl same
      | inr some ↦ inr (stay q some)
    ]

at_found : (P : Text → Type 0) (p : NamedZone → Bool) (zones : List NamedZone) (z : NamedZone)
    → AllByRecursion P (map (λ z. z.name) zones) → find p zones ≡ Some z → P z.name
at_found P p [] z all found = absurd (cc found)
at_found P p (y ∷ ys) z all found = by (at_found P p ys z all.1) (p y) refl
  where
    by : (find p ys ≡ Some z → P z.name) → (b : Bool) → p y ≡ b → P z.name
    by again true e = let now = rw e at found in let same : y ≡ z = cc now in subst (λ x. P x.name) same all.0
    by again false e = let now = rw e at found in again now

-- The zones of all names are those of the state.
pub all_zones : (s : State) (at : Session) (names : List Text) → IsInventory (kept s)
    → names ≡ map (λ z. z.name) s.zones → AreSought s at names → HasAllZones s at
all_zones s at names inventory are sought = record {
  session = sought.session;
  zones = λ name. by_map name (get bytes_eq at.zones name) refl;
}
  where
    here : AllByRecursion (IsHere s at) (map (λ z. z.name) s.zones)
    here = recursion_from_All (IsHere s at) (map (λ z. z.name) s.zones) (subst (All (IsHere s at)) are sought.here)

    absent : (name : Text) → get bytes_eq at.zones name ≡ None → (z : NamedZone)
        → find (λ z. bytes_eq z.name name) s.zones ≡ Some z → ⊥
    absent name none z found =
        let same : z.name ≡ name = same_from z.name name (find_gives (λ z. bytes_eq z.name name) s.zones z found).0 in
        let there : zone_named s.zones name ≡ Some z.zone = ap (option_map (λ (z : NamedZone). z.zone)) found in
        elim (subst (IsHere s at) same (at_found (IsHere s at) (λ z. bytes_eq z.name name) s.zones z here found)
        (or_right (bytes_eq name global_name) (is_some (zone_named s.zones name)) (ap is_some there))) [
          | inl global ↦ absurd (cc (sym (ap is_some there) ∙ ap is_some
              (ap (zone_named s.zones) global ∙ none_global s.zones inventory.zones)))
          | inr some ↦ absurd (cc (sym (ap is_some none) ∙ some))
        ]

    by_list : (name : Text) → get bytes_eq at.zones name ≡ None → (o : Option NamedZone)
        → find (λ z. bytes_eq z.name name) s.zones ≡ o → get bytes_eq at.zones name ≡ zone_named s.zones name
    by_list name none None e = none ∙ sym (ap (option_map (λ (z : NamedZone). z.zone)) e)
    by_list name none (Some z) e = absurd (absent name none z e)

    by_map : (name : Text) (o : Option Zone) → get bytes_eq at.zones name ≡ o
        → get bytes_eq at.zones name ≡ zone_named s.zones name
    by_map name None e = by_list name e (find (λ z. bytes_eq z.name name) s.zones) refl
    by_map name (Some z) e = e ∙ sym (sought.session.zones name z e)

-- The same ids are applied in both.
pub alike : (s : State) (at : Session) → IsInventory (kept s) → IsUnique bytes_eq at.zones → HasAllZones s at
    → AppliesAlike at.zones s.zones
alike s at inventory unique has =
    applies_alike at.zones s.zones unique
    (pairs_unmap (λ (a b : NamedZone). IsTrue (is_before a.name b.name)) (λ (x y : Text). IsTrue (is_before x y))
    (λ z. z.name) (λ a b lower. lower) s.zones inventory.names)
    has.zones
