-- What is found zone by zone, by their heads, is what is found of the inventory's zones.
use Rattle.std.proofs.Common.{◌≡◌, ◌∙◌, ◌+◌, ℕ, false, List, [], ◌∷◌, Option, Some, None, find, map, length}
use Rattle.std.proofs.Common.{refl, sym, ap, ap₂, subst, IsTrue, inl, inr, ◌⊎◌, ◌<◌, ◌≤◌, drop, get_or}
use Rattle.std.specs.Prelude.{AllPairs, Contains, fold, option_map, option_and_then, unwrap_or}
use Rattle.std.specs.Option.{option_map_or}
use Rattle.std.specs.Ordering.{nat_cmp}
use Rattle.std.specs.Cmp.Lexicographic.{slice_cmp}
use Rattle.std.specs.Str.{bytes_eq}
use Rattle.std.proofs.lemmas.List.{drop_more, drop_all, length-map}
use Rattle.std.proofs.lemmas.List.Elements.{All-contains}
use Rattle.terms.specs.Types.{Global, NamedZone}
use Rattle.terms.specs.Lookups.{is_before}
use Rattle.terms.proofs.ListMembers.{here, there, here_or, none_in}
use Rattle.terms.proofs.Orderings.{Less_from_is_lt}
use Rattle.terms.proofs.Pairs.{AllPairs_first, AllPairs_rest, pairs_unmap}
use Rattle.terms.proofs.TextOrder.{same_itself, other_from_less}
use Rattle.store_schema.specs.Inventory.{Inventory, IsInventory}
use Rattle.store_zones.specs.declared.head.ZoneHead.{ZoneHead}
use Rattle.store_zones.specs.Found.{head_of, zone_in}
use Rattle.smpe_verify.specs.declared.breach.Breach.{Breach}
use Rattle.smpe_verify.specs.declared.verification.Counts.{Counts}
use Rattle.smpe_verify.specs.declared.verification.Verification.{Verification}
use Rattle.smpe_verify.specs.declared.verification.Verification.TheVariants.{Closed, Broken}
use Rattle.smpe_verify.specs.FirstBreach.{first_of}
use Rattle.smpe_verify.specs.Verified.{begun, breach_in, breach_at, broken, counted, verification}
use Rattle.smpe_verify.specs.Verified.{verified_from}

abbrev IsLower : NamedZone → NamedZone → Type 0
IsLower a b = IsTrue (is_before a.name b.name)

-- a zone is found by its name
at_name : (zones : List NamedZone) (z : NamedZone) → AllPairs IsLower zones → Contains zones z
    → find (λ y. bytes_eq y.name z.name) zones ≡ Some z
at_name [] z rising has = absurd (none_in z has)
at_name (y ∷ ys) z rising has = by (at_name ys z (AllPairs_rest IsLower y ys rising)) (here_or y ys z has)
  where
    by : (Contains ys z → find (λ y. bytes_eq y.name z.name) ys ≡ Some z) → (y ≡ z) ⊎ Contains ys z
        → find (λ y. bytes_eq y.name z.name) (y ∷ ys) ≡ Some z
    by again (inl same) = subst (λ w. find (λ y. bytes_eq y.name w.name) (y ∷ ys) ≡ Some w) same
        (rw (same_itself y.name) refl)
    by again (inr later) =
        let lower : IsLower y z = All-contains (IsLower y) ys z (AllPairs_first IsLower y ys rising) later in
        let other : bytes_eq y.name z.name ≡ false = other_from_less y.name z.name
        (Less_from_is_lt (slice_cmp nat_cmp y.name z.name) lower) in
        rw other (again later)

in_inventory : (i : Inventory) → IsInventory i → (z : NamedZone) → Contains i.zones z → zone_in i z.name ≡ Some z.zone
in_inventory i inventory z has = ap (option_map (λ (z : NamedZone). z.zone)) (at_name i.zones z
    (pairs_unmap IsLower (λ x y. IsTrue (is_before x y)) (λ z. z.name) (λ a b lower. lower) i.zones inventory.names)
    has)

-- the counts after these zones too
abbrev after_zones : Counts → List NamedZone → Counts
after_zones counts zs = record counts {
  entries = fold (λ n z. n + length z.zone.entries) counts.entries zs;
  elements = fold (λ n z. n + length z.zone.elements) counts.elements zs;
}

module _ (i : Inventory) where
  from_zones : (zs : List NamedZone) (counts : Counts)
      → ((z : NamedZone) → Contains zs z → zone_in i z.name ≡ Some z.zone)
      → verified_from i counts (map head_of zs)
      ≡ unwrap_or (first_of (broken i.global) zs) (Closed (after_zones counts zs))
  from_zones [] counts each = refl
  from_zones (z ∷ zs) counts each =
      by (from_zones zs (counted i counts z.name) (λ y h. each y (there z zs y h))) (broken i.global z) refl
    where
      at : zone_in i z.name ≡ Some z.zone
      at = each z (here z zs)

      told : option_map (Broken z.name) (breach_at i i.global z.name) ≡ broken i.global z
      told = ap (λ o. option_map (Broken z.name) (option_and_then (breach_in i.global) o)) at

      more : counted i counts z.name ≡ after_zones counts (z ∷ [])
      more =
          ap (λ o. option_map_or (λ zone. after_zones counts (record { name = z.name; zone = zone } ∷ [])) o counts) at

      by : verified_from i (counted i counts z.name) (map head_of zs)
          ≡ unwrap_or (first_of (broken i.global) zs) (Closed (after_zones (counted i counts z.name) zs))
          → (o : Option Verification) → broken i.global z ≡ o
          → verified_from i counts (map head_of (z ∷ zs))
          ≡ unwrap_or (first_of (broken i.global) (z ∷ zs)) (Closed (after_zones counts (z ∷ zs)))
      by rest None is = rw (told, is) (rest
          ∙ ap (λ (n : Counts). unwrap_or (first_of (broken i.global) zs) (Closed (after_zones n zs))) more)
      by rest (Some v) is = rw (told, is) refl

  abbrev with_zones : ℕ → Counts
  with_zones n = record { sysmods = length i.global.sysmods; zones = n; entries = 0; elements = 0 }

  -- all heads, from no entries and elements on
  pub whole : IsInventory i → (g : Global) → g ≡ i.global → (heads : List ZoneHead) → heads ≡ map head_of i.zones
      → (counts : Counts) → counts ≡ begun g heads → verified_from i counts heads ≡ verification i
  whole inventory g global heads are counts is =
      let start : counts ≡ with_zones (length i.zones) =
      is ∙ ap₂ begun global are ∙ ap with_zones (length-map i.zones head_of)
      in
      ap₂ (verified_from i) start are
      ∙ from_zones i.zones (with_zones (length i.zones)) (in_inventory i inventory)

-- ---- one head after the other

module _ (i : Inventory) (heads : List ZoneHead) (k : ℕ) (counts : Counts)
    (before : verified_from i counts (drop k heads) ≡ verification i) where
  module _ (head : ZoneHead) (below : k < length heads) (is : head ≡ get_or heads k head) (g : Global)
      (global : g ≡ i.global) where
    at : (found : Option Breach) → found ≡ breach_at i g head.name
        → unwrap_or (option_map (Broken head.name) found)
        (verified_from i (counted i counts head.name) (drop (k + 1) heads)) ≡ verification i
    at found found_is =
        let rest = verified_from i (counted i counts head.name) (drop (k + 1) heads) in
        ap (λ b. unwrap_or (option_map (Broken head.name) b) rest)
        (found_is ∙ ap (λ h. breach_at i h head.name) global)
        ∙ ap (λ n. verified_from i counts (n ∷ drop (k + 1) heads)) is
        ∙ sym (ap (verified_from i counts) (drop_more heads k head below)) ∙ before

    -- the zone of this head is closed, or there is none
    pub goes_on : (new : Counts) → new ≡ counted i counts head.name → None ≡ breach_at i g head.name
        → verified_from i new (drop (k + 1) heads) ≡ verification i
    goes_on new after none = ap (λ n. verified_from i n (drop (k + 1) heads)) after ∙ at None none

    -- it is not
    pub stops : (b : Breach) → Some b ≡ breach_at i g head.name → Broken head.name b ≡ verification i
    stops b some = at (Some b) some

  -- all are
  pub ends : length heads ≤ k → Closed counts ≡ verification i
  ends all = sym (ap (verified_from i counts) (drop_all k heads all)) ∙ before
