-- Zones of the state: each is that of its name, and the session has it once it was sought.
use Rattle.std.proofs.Common.{◌≡◌, ◌∙◌, Bool, List, Option, Some, None, IsTrue, All, Contains, refl, sym, ap}
use Rattle.std.proofs.Common.{subst, inl, inr}
use Rattle.std.specs.Prelude.{IsSome, is_some, find, option_map}
use Rattle.std.specs.Str.{bytes_eq}
use Rattle.std.specs.Ordering.{nat_cmp}
use Rattle.std.specs.Cmp.Lexicographic.{slice_cmp, texts_ties}
use Rattle.std.proofs.lemmas.Bool.{or_right}
use Rattle.std.proofs.lemmas.Cmp.{nat_list_cmp_total}
use Rattle.indexmap.specs.IndexMap.{get}
use Rattle.terms.specs.Types.{Text, Zone, NamedZone}
use Rattle.terms.specs.Lookups.{is_before}
use Rattle.terms.specs.Rising.{Rises}
use Rattle.terms.proofs.Pairs.{pairs_unmap}
use Rattle.terms.proofs.Searches.{All_find}
use Rattle.store_schema.specs.Inventory.{IsInventory}
use Rattle.machine.specs.State.{State, global_name, zone_named}
use Rattle.store.specs.Kept.{kept}
use Rattle.machine_laws.proofs.Lists.{find_itself}
use Rattle.smpe_session.specs.declared.session.Session.{Session}
use Rattle.smpe_session.specs.KnownZones.{IsSought}
use Rattle.smpe_session.proofs.Places.{none_global}

module _ (s : State) (inventory : IsInventory (kept s)) where
  rising : Rises (slice_cmp nat_cmp) (λ (z : NamedZone). z.name) s.zones
  rising = pairs_unmap (λ (a b : NamedZone). IsTrue (is_before a.name b.name))
      (λ (x y : Text). IsTrue (is_before x y)) (λ z. z.name) (λ a b lower. lower) s.zones inventory.names

  -- a zone of the state is that of its name
  pub its_own : (z : NamedZone) → Contains s.zones z → zone_named s.zones z.name ≡ Some z.zone
  its_own z there = ap (option_map (λ (z : NamedZone). z.zone))
      (find_itself nat_list_cmp_total (λ (z : NamedZone). z.name) bytes_eq texts_ties s.zones z rising there)

  -- one that was sought is in the session
  module _ (at : Session) (name : Text) (answer : Bool) (sought : IsSought s at name answer) (zone : Zone)
      (there : zone_named s.zones name ≡ Some zone) where
    no_global : zone_named s.zones global_name ≡ None
    no_global = none_global s.zones inventory.zones

    got : (o : Option Zone) → get bytes_eq at.zones name ≡ o → IsSome (get bytes_eq at.zones name)
        → get bytes_eq at.zones name ≡ Some zone
    got None e some = absurd (cc (sym some ∙ ap is_some e))
    got (Some z) e some = e ∙ sym (sought.session.zones name z e) ∙ there

    pub sought_held : get bytes_eq at.zones name ≡ Some zone
    sought_held = elim (sought.here (sought.found ∙ or_right (bytes_eq name global_name)
        (is_some (zone_named s.zones name)) (ap is_some there))) [
          | inl global ↦ absurd (cc (sym there ∙ ap (zone_named s.zones) global ∙ no_global))
          | inr some ↦ got (get bytes_eq at.zones name) refl some
        ]

-- what is so of each zone is so of one that is named
pub each_named : (P : Zone → Type 0) (zones : List NamedZone) → All (λ (z : NamedZone). P z.zone) zones → (name : Text)
    (zone : Zone) → zone_named zones name ≡ Some zone → P zone
each_named P zones each name zone there = by (find (λ z. bytes_eq z.name name) zones) refl
  where
    by : (z : Option NamedZone) → find (λ z. bytes_eq z.name name) zones ≡ z → P zone
    by None at = absurd (cc (sym there ∙ ap (option_map (λ z. z.zone)) at))
    by (Some z) at =
        let both : Some z.zone ≡ Some zone = sym (ap (option_map (λ z. z.zone)) at) ∙ there in
        let same : z.zone ≡ zone = cc both in
        subst P same (All_find (λ (z : NamedZone). P z.zone) (λ z. bytes_eq z.name name) zones z each at)
