-- The definition of a zone leads from an inventory to an inventory.
use Rattle.std.proofs.Common.{◌≡◌, ◌≢◌, suc, Bool, true, false, ◌||◌, not, List, [], ◌∷◌, ◌++◌, get_or, Option}
use Rattle.std.proofs.Common.{Some, None, All, AllPairs, Contains, IsTrue, IsFalse, IfSome, refl, sym, ◌∙◌, ap, subst}
use Rattle.std.proofs.Common.{inl, inr, arith, true≢false}
use Rattle.std.specs.Prelude.{find, option_map, Ok, Err, is_some, if◌then◌else◌, codes}
use Rattle.std.specs.Option.{option_map_or}
use Rattle.std.specs.List.{AllByRecursion}
use Rattle.std.specs.Str.{bytes_eq}
use Rattle.std.specs.declared.cmp.Ordering.{Ordering}
use Rattle.std.specs.declared.cmp.Ordering.TheVariants.{Less, Equal, Greater}
use Rattle.std.specs.Ordering.{nat_cmp, is_lt, ordering_reverse}
use Rattle.std.specs.Cmp.Lexicographic.{slice_cmp}
use Rattle.std.proofs.lemmas.Cmp.{nat_list_cmp_total}
use Rattle.std.proofs.lemmas.Bool.{and_parts}
use Rattle.std.proofs.lemmas.Map.Lookups.{exact_bytes}
use Rattle.std.proofs.lemmas.List.Elements.{All-cons, All-weaker, Contains-append_left, Contains-append_right}
use Rattle.std.proofs.lemmas.List.Elements.{Contains-append_cases, All-from_recursion}
use Rattle.terms.proofs.ListMembers.{in_middle}
use Rattle.terms.specs.declared.kinds.ZoneKind.{ZoneKind}
use Rattle.terms.specs.declared.kinds.ZoneKind.TheVariants.{Target, Distribution}
use Rattle.terms.specs.Types.{Text, Zone, a_zone, NamedZone, is_target, is_distribution}
use Rattle.terms.specs.Lookups.{is_before}
use Rattle.terms.specs.Rising.{Rises, with_item, Splits}
use Rattle.terms.specs.Forms.{IsSrel, IsZoneName}
use Rattle.terms.proofs.Pairs.{pairs_map, pairs_unmap, AllPairs_between, AllPairs_first, AllPairs_rest}
use Rattle.terms.proofs.TextOrder.{same_from, same_itself}
use Rattle.terms.proofs.RisingLists.{with_item_new, Rises_between}
use Rattle.terms.proofs.Each.{All_between, recursion_front, recursion_back}
use Rattle.terms.proofs.Orderings.{Less_from_is_lt}
use Rattle.store_schema.specs.Inventory.{IsInventory, IsZoneNamed, HasDistribution, IsRelated, AreApart}
use Rattle.machine_laws.proofs.Lists.{each_alike}
use Rattle.machine_laws.proofs.ZonesKept.{stands_among}
use Rattle.machine.specs.State.{State, zone_named, with_zone, ZoneDefinition, NameTaken, WrongRelated, OtherSrel}
use Rattle.machine.specs.State.{TooMany, define_zone}
use Rattle.machine.specs.State.{is_related, has_right_related, has_same_srel, global_name}
use Rattle.std.proofs.lemmas.Bool.{or_parts}
use Rattle.terms.proofs.Booleans.{false_from_not}

tests : {T E : Type 0} (a b c e : Bool) (w x y z : E) (r t : T)
    → (if a then Err w else if not b then Err x else if not c then Err y else if e then Err z else Ok r) ≡ Ok t
    → IsFalse a × IsTrue b × IsTrue c × (r ≡ t)
tests true b c e w x y z r t is = absurd (cc is)
tests false false c e w x y z r t is = absurd (cc is)
tests false true false e w x y z r t is = absurd (cc is)
tests false true true true w x y z r t is = absurd (cc is)
tests false true true false w x y z r t is = (refl, refl, refl, cc is)

-- what the tests of a definition that is not refused tell, and what it adds
pub record IsDefined (s t : State) (d : ZoneDefinition) : Type 0 where
  pub not_global : d.name ≢ codes "GLOBAL"
  pub is_new : IsFalse (is_some (zone_named s.zones d.name))
  pub right : IsTrue (has_right_related s.zones d.kind d.related)
  pub srel : IsTrue (has_same_srel s.zones d.srel d.related)
  pub adds : with_zone s d.name (a_zone d.kind d.srel d.related [] []) ≡ t

pub defined : (s t : State) (d : ZoneDefinition) → define_zone s d ≡ Ok t → IsDefined s t d
unfolding define_zone
defined s t d is =
    let passed = tests (bytes_eq d.name global_name || is_some (zone_named s.zones d.name))
    (has_right_related s.zones d.kind d.related)
    (has_same_srel s.zones d.srel d.related) _ NameTaken WrongRelated OtherSrel TooMany
    (with_zone s d.name (a_zone d.kind d.srel d.related [] [])) t is in
    let new = or_parts (bytes_eq d.name global_name) (is_some (zone_named s.zones d.name)) passed.0 in
    record {
      not_global = λ e. true≢false (sym (ap (λ n. bytes_eq n global_name) e ∙ same_itself global_name) ∙ new.0);
      is_new = new.1;
      right = passed.1;
      srel = passed.2;
      adds = passed.3;
    }

abbrev by_name : NamedZone → Text
by_name z = z.name

-- no zone has a name that is not found
none_named : (zones : List NamedZone) (name : Text) → IsFalse (is_some (zone_named zones name))
    → AllByRecursion (λ z. z.name ≢ name) zones
none_named [] name none = tt
none_named (z ∷ zs) name none = by (bytes_eq z.name name) refl (λ rest. none_named zs name rest)
  where
    by : (b : Bool) → bytes_eq z.name name ≡ b → (IsFalse (is_some (zone_named zs name))
        → AllByRecursion (λ z. z.name ≢ name) zs) → AllByRecursion (λ z. z.name ≢ name) (z ∷ zs)
    by true same later = absurd (true≢false (subst (λ b. IsFalse
        (is_some (option_map (λ y. y.zone) (if b then Some z else find (λ y. bytes_eq y.name name) zs)))) same none))
    by false other later = (
      λ e. true≢false (sym (ap (λ n. bytes_eq n name) e ∙ same_itself name) ∙ other),
      later (subst (λ b. IsFalse (is_some (option_map (λ y. y.zone)
          (if b then Some z else find (λ y. bytes_eq y.name name) zs)))) other none),
    )

-- where a name that is not there would stand
record Cut (zones : List NamedZone) (name : Text) : Type 0 where
  front : List NamedZone
  back : List NamedZone
  parts : zones ≡ front ++ back
  splits : Splits (slice_cmp nat_cmp) by_name name front back

cut : (zones : List NamedZone) (name : Text) → Rises (slice_cmp nat_cmp) by_name zones
    → AllByRecursion (λ z. z.name ≢ name) zones → Cut zones name
cut [] name rises none = record {
  front = [];
  back = [];
  parts = refl;
  splits = record { low = λ k d below. absurd (omega arith); high = λ k d below. absurd (omega arith) };
}
cut (z ∷ zs) name rises none = by (slice_cmp nat_cmp z.name name) refl
    (cut zs name (AllPairs_rest (λ (x y : NamedZone). IsTrue (is_lt (slice_cmp nat_cmp x.name y.name))) z zs rises)
    none.1)
  where
    after_it : slice_cmp nat_cmp name z.name ≡ Less → All (λ (y : NamedZone). slice_cmp nat_cmp name y.name ≡ Less) zs
    after_it less = λ k d below.
        nat_list_cmp_total.trans name z.name (get_or zs k d).name less
        (Less_from_is_lt (slice_cmp nat_cmp z.name (get_or zs k d).name)
        (AllPairs_first (λ (x y : NamedZone). IsTrue (is_lt (slice_cmp nat_cmp x.name y.name))) z zs rises k d
        below))

    by : (o : Ordering) → slice_cmp nat_cmp z.name name ≡ o → Cut zs name → Cut (z ∷ zs) name
    by Less less later = record {
      front = z ∷ later.front;
      back = later.back;
      parts = ap (λ ys. z ∷ ys) later.parts;
      splits = record {
        low = All-cons (λ (y : NamedZone). slice_cmp nat_cmp y.name name ≡ Less) z later.front less
            later.splits.low;
        high = later.splits.high;
      };
    }
    by Equal same later = absurd (none.0 (exact_bytes z.name name same))
    by Greater greater later =
        let less : slice_cmp nat_cmp name z.name ≡ Less = nat_list_cmp_total.antisymm name z.name
        ∙ ap ordering_reverse greater in
        record {
          front = [];
          back = z ∷ zs;
          parts = refl;
          splits = record {
            low = λ k d below. absurd (omega arith);
            high = All-cons (λ (y : NamedZone). slice_cmp nat_cmp name y.name ≡ Less) z zs less (after_it less);
          };
        }

-- a list between whose parts an item comes
module _ (front back : List NamedZone) (z : NamedZone) where
  stays : (y : NamedZone) → Contains (front ++ back) y → Contains (front ++ z ∷ back) y
  stays y there = elim (Contains-append_cases front back y there) [
    | inl before ↦ Contains-append_left front (z ∷ back) y before
    | inr behind ↦ Contains-append_right front (z ∷ back) y (suc behind.0, omega (arith, behind.1), behind.2)
  ]

  still_related : (kind : ZoneKind) (srel : Text) (related : Option Text) → IsRelated (front ++ back) kind srel related
      → IsRelated (front ++ z ∷ back) kind srel related
  still_related Target srel None is = is
  still_related Target srel (Some name) (y, there, named, kind, has) = (y, stays y there, named, kind, has)
  still_related Distribution srel related is = is

distribution_from : (kind : ZoneKind) → IsTrue (is_distribution kind) → kind ≡ Distribution
distribution_from Target same = absurd (cc same)
distribution_from Distribution same = refl

-- the zone that it names is there
found_related : (zones : List NamedZone) (srel name : Text) (o : Option Zone) → zone_named zones name ≡ o
    → IsTrue (option_map_or (λ z. is_distribution z.kind) o false)
    → IsTrue (option_map_or (λ z. bytes_eq z.srel srel) o false)
    → HasDistribution zones name srel
found_related zones srel name None found kind same = absurd (cc kind)
found_related zones srel name (Some old) found kind same =
    let at = stands_among zones name old found in
    let z : NamedZone = record { name = name; zone = old } in (
      z,
      subst (λ zs. Contains zs z) (sym at.zones_are) (in_middle at.before z at.after),
      refl,
      distribution_from old.kind kind,
      same_from old.srel srel same,
    )

related_new : (zones : List NamedZone) (kind : ZoneKind) (srel : Text) (related : Option Text)
    → IsTrue (has_right_related zones kind related) → IsTrue (has_same_srel zones srel related)
    → IsRelated zones kind srel related
related_new zones Target srel None right same = absurd (cc right)
related_new zones Target srel (Some name) right same =
    found_related zones srel name (zone_named zones name) refl
    (and_parts (option_map_or (λ z. is_distribution z.kind) (zone_named zones name) false)
    (not (is_related zones name)) right).0 same
related_new zones Distribution srel None right same = refl
related_new zones Distribution srel (Some name) right same = absurd (cc right)

-- and no other zone names it
names_other : (r : Option Text) (name : Text) → IsFalse (option_map_or (bytes_eq name) r false) → r ≢ Some name
names_other r name other e = true≢false (sym (same_itself name)
    ∙ sym (ap (λ o. option_map_or (bytes_eq name) o false) e) ∙ other)

unrelated : (zones : List NamedZone) (name : Text) → IsFalse (is_related zones name)
    → AllByRecursion (λ y. y.zone.related ≢ Some name) zones
unrelated [] name none = tt
unrelated (z ∷ zs) name none =
    let parts = or_parts (option_map_or (bytes_eq name) z.zone.related false) (is_related zs name) none in
    (names_other z.zone.related name parts.0, unrelated zs name parts.1)

apart_back : (zones : List NamedZone) (kind : ZoneKind) (related : Option Text)
    → IsTrue (has_right_related zones kind related)
    → AllByRecursion (λ (y : NamedZone). IfSome related (λ name. y.zone.related ≢ Some name)) zones
apart_back zones Target None right = absurd (cc right)
apart_back zones Target (Some name) right =
    unrelated zones name (false_from_not (is_related zones name) (and_parts
    (option_map_or (λ z. is_distribution z.kind) (zone_named zones name) false)
    (not (is_related zones name)) right).1)
apart_back zones Distribution None right = each_alike (Unit {0}) tt zones
apart_back zones Distribution (Some name) right = absurd (cc right)

turned : (r related : Option Text) → IfSome related (λ n. r ≢ Some n) → IfSome r (λ n. related ≢ Some n)
turned None related h = tt
turned (Some m) None h = λ e. absurd (cc e)
turned (Some m) (Some n) h = λ e. h (sym e)

apart_front : (related : Option Text) (zones : List NamedZone)
    → AllByRecursion (λ (y : NamedZone). IfSome related (λ name. y.zone.related ≢ Some name)) zones
    → AllByRecursion (λ (y : NamedZone). IfSome y.zone.related (λ name. related ≢ Some name)) zones
apart_front related [] h = tt
apart_front related (z ∷ zs) h = (turned z.zone.related related h.0, apart_front related zs h.1)

target_related : (zones : List NamedZone) (kind : ZoneKind) (related : Option Text)
    → IsTrue (has_right_related zones kind related) → is_some related ≡ is_target kind
target_related zones Target None right = absurd (cc right)
target_related zones Target (Some name) right = refl
target_related zones Distribution None right = refl
target_related zones Distribution (Some name) right = absurd (cc right)

-- the empty zone is good by itself
empty_named : (zones : List NamedZone) (d : ZoneDefinition) → IsZoneName d.name → IsSrel d.srel
    → d.name ≢ codes "GLOBAL" → IsTrue (has_right_related zones d.kind d.related)
    → IsZoneNamed (record { name = d.name; zone = a_zone d.kind d.srel d.related [] [] })
empty_named zones d name srel not_global right = record {
  name = name;
  not_global = not_global;
  forms = record {
    srel = srel;
    entries = λ k e below. absurd (omega arith);
    elements = λ k e below. absurd (omega arith);
  };
  zone = record {
    entries = λ i j e less below. absurd (omega arith);
    held = λ k e below. absurd (omega arith);
    waived = λ k e below. absurd (omega arith);
    elements = λ i j e less below. absurd (omega arith);
    related = target_related zones d.kind d.related right;
  };
}

-- The definition of a zone, of a name and an SREL that have their forms, leads from an inventory to one.
pub definition_kept : (s t : State) (d : ZoneDefinition) → IsZoneName d.name → IsSrel d.srel → define_zone s d ≡ Ok t
    → IsInventory (record { global = s.global; zones = s.zones })
    → IsInventory (record { global = t.global; zones = t.zones })
definition_kept s t d name srel answers is =
    let told = defined s t d answers in
    let z : NamedZone = record { name = d.name; zone = a_zone d.kind d.srel d.related [] [] } in
    let rises = pairs_unmap (λ (a b : NamedZone). IsTrue (is_before a.name b.name))
    (λ (x y : Text). IsTrue (is_before x y)) by_name (λ a b lower. lower) s.zones is.names in
    let at = cut s.zones d.name rises (none_named s.zones d.name told.is_new) in
    let parts = at.parts in
    let zones : List NamedZone = at.front ++ z ∷ at.back in
    let made = ap (λ zs. with_item (slice_cmp nat_cmp) by_name zs z) parts
    ∙ with_item_new nat_list_cmp_total by_name at.front at.back z at.splits in
    let R : NamedZone → Type 0 = λ y. IsRelated zones y.zone.kind y.zone.srel y.zone.related in
    let each : (y : NamedZone) → IsRelated s.zones y.zone.kind y.zone.srel y.zone.related → R y =
    λ y related. still_related at.front at.back z y.zone.kind y.zone.srel y.zone.related
    (subst (λ zs. IsRelated zs y.zone.kind y.zone.srel y.zone.related) parts related) in
    let pairs = subst (λ zs. AllPairs AreApart zs) parts is.apart in
    let apart = apart_back s.zones d.kind d.related told.right in
    let before = All-from_recursion (λ (y : NamedZone). AreApart y z) at.front
    (recursion_front (λ (y : NamedZone). AreApart y z) at.front at.back
    (subst (AllByRecursion (λ (y : NamedZone). AreApart y z)) parts (apart_front d.related s.zones apart))) in
    let behind = All-from_recursion (AreApart z) at.back (recursion_back (AreApart z) at.front at.back
    (subst (AllByRecursion (AreApart z)) parts apart)) in
    let inventory : IsInventory (record { global = s.global; zones = zones }) = record {
      global = is.global;
      sysmods = is.sysmods;
      holds = is.holds;
      names = pairs_map (λ (a b : NamedZone). IsTrue (is_before a.name b.name)) (λ (x y : Text). IsTrue (is_before x y))
          by_name (λ a b lower. lower) zones
          (Rises_between nat_list_cmp_total by_name at.front at.back z
          (subst (λ zs. Rises (slice_cmp nat_cmp) by_name zs) parts rises) at.splits);
      zones = All_between IsZoneNamed at.front at.back z (subst (λ zs. All IsZoneNamed zs) parts is.zones)
          (empty_named s.zones d name srel told.not_global told.right);
      related = All_between R at.front at.back z (subst (λ zs. All R zs) parts
          (All-weaker (λ y. IsRelated s.zones y.zone.kind y.zone.srel y.zone.related) R each s.zones is.related))
          (each z (related_new s.zones d.kind d.srel d.related told.right told.srel));
      apart = AllPairs_between AreApart at.front at.back z pairs before behind;
    } in
    subst (λ (u : State). IsInventory (record { global = u.global; zones = u.zones })) told.adds
    (subst (λ zs. IsInventory (record { global = s.global; zones = zs })) (sym made) inventory)

-- The zone stands at its place among the others.
pub record IsPlaced (s t : State) (d : ZoneDefinition) : Type 0 where
  pub before : List NamedZone
  pub after : List NamedZone
  pub was : s.zones ≡ before ++ after
  pub is : t ≡ record s {
    zones = before ++ record { name = d.name; zone = a_zone d.kind d.srel d.related [] [] } ∷
        after;
  }

pub placed : (s t : State) (d : ZoneDefinition) → define_zone s d ≡ Ok t
    → IsInventory (record { global = s.global; zones = s.zones }) → IsPlaced s t d
placed s t d answers is =
    let told = defined s t d answers in
    let z : NamedZone = record { name = d.name; zone = a_zone d.kind d.srel d.related [] [] } in
    let rises = pairs_unmap (λ (a b : NamedZone). IsTrue (is_before a.name b.name))
    (λ (x y : Text). IsTrue (is_before x y)) by_name (λ a b lower. lower) s.zones is.names in
    let at = cut s.zones d.name rises (none_named s.zones d.name told.is_new) in
    let made = ap (λ zs. with_item (slice_cmp nat_cmp) by_name zs z) at.parts
    ∙ with_item_new nat_list_cmp_total by_name at.front at.back z at.splits in
    record {
      before = at.front;
      after = at.back;
      was = at.parts;
      is = sym told.adds ∙ ap (λ zs. record s { zones = zs }) made;
    }
