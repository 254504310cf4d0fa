-- What heads say of zones, and what the tables hold of all of them.
use Rattle.std.proofs.Common.{◌≡◌, inl, inr, Bool, true, false, List, [], ◌∷◌, map, Option, None, Some, IsTrue}
use Rattle.std.proofs.Common.{Contains, IsPermutation, refl, sym, ap, subst, ◌∙◌, true≢false}
use Rattle.std.specs.Prelude.{All, AllPairs, IfSome, is_some}
use Rattle.std.specs.List.{AllByRecursion, Any, flat_map}
use Rattle.std.specs.Ordering.{is_lt, nat_cmp}
use Rattle.std.specs.Cmp.Lexicographic.{slice_cmp}
use Rattle.std.specs.Str.{bytes_eq}
use Rattle.std.proofs.lemmas.List.Elements.{All-from_recursion}
use Rattle.terms.proofs.Each.{any_none, any_cases, recursion_weaker, recursion_unmap}
use Rattle.terms.proofs.ListMembers.{here, there}
use Rattle.terms.proofs.Orderings.{Less_from_is_lt}
use Rattle.terms.proofs.Pairs.{AllPairs_first, AllPairs_rest, pairs_map, pairs_unmap}
use Rattle.terms.proofs.TextOrder.{other_from_less}
use Rattle.std.proofs.lemmas.List.Elements.{All-head, All-tail, recursion_from_All}
use Rattle.std.proofs.lemmas.Bool.{and_parts}
use Rattle.sqlite.specs.declared.types.Value.TheVariants.{Null, Text}
use Rattle.sqlite.specs.Effect.{Database}
use Rattle.sqlite.specs.Order.{Row}
use Rattle.sqlite.specs.Table.{Table}
use Rattle.sqlite_schema.specs.Rules.{agree}
use Rattle.sqlite_value.specs.Keys.{plain, first_key}
use Rattle.sqlite_rules.proofs.KeyLemmas.{agree_back, agree_chain}
use Rattle.store_rows.specs.Rows.{Contents, HasContents, has_key}
use Rattle.store_rows.proofs.Keys.{equals}
use Rattle.terms.specs.declared.kinds.ZoneKind.{ZoneKind}
use Rattle.terms.specs.declared.kinds.ZoneKind.TheVariants.{Target, Distribution}
use Rattle.terms.specs.Types.{Text as Word, NamedZone, is_target}
use Rattle.terms.specs.Lookups.{IsRising, is_before}
use Rattle.terms.specs.Rising.{Rises}
use Rattle.store_schema.specs.declared.schema.Schema.{Schema}
use Rattle.store_schema.specs.Earlier.{schema_under}
use Rattle.store_schema.specs.Inventory.{IsRelated, AreApart}
use Rattle.store_schema.specs.Rows.{zone_row, entries_of, zelems_of}
use Rattle.store_schema.specs.Tables.{zone, entry, zelem}
use Rattle.store_zones.specs.declared.head.ZoneHead.{ZoneHead}
use Rattle.store_zones.specs.Found.{head_of}
use Rattle.store_zones.specs.Held.{name_key, rows_named, HoldsZone}
use Rattle.store_zones.specs.Heads.{HasHeadForms}
use Rattle.store_zones.specs.Related.{IsDistributionOf, IsRelatedAmong, HeadsAreApart, AreRelated}
use Rattle.store.specs.Whole.{HoldsZones}
use Rattle.store_migration.proofs.Parents.{Refers, names_zone, entry_refers, element_refers, zone_listed}
use Rattle.store_migration.proofs.Parted.{AllApart, parted}

-- ---- what zones say of each other

any_mapped : {X Y : Type 0} (P : Y → Type 0) (f : X → Y) (xs : List X) → Any P (map f xs)
    → (x : X) × Contains xs x × P (f x)
any_mapped P f [] h = absurd (any_none P h)
any_mapped P f (x ∷ xs) h = elim (any_cases P (f x) (map f xs) h) [
  | inl p ↦ (x, here x xs, p)
  | inr later ↦ let it = any_mapped P f xs later in (it.0, there x xs it.0 it.1, it.2)
]

is_related : (zones : List NamedZone) (kind : ZoneKind) (srel : Word) (related : Option Word)
    → is_some related ≡ is_target kind
    → IfSome related (λ name. Any (IsDistributionOf name srel) (map head_of zones)) → IsRelated zones kind srel related
is_related zones Target srel None suits among = absurd (true≢false (sym suits))
is_related zones Target srel (Some name) suits among =
    let it = any_mapped (IsDistributionOf name srel) head_of zones among in
    (it.0, it.1, it.2.0, it.2.1, it.2.2)
is_related zones Distribution srel None suits among = refl
is_related zones Distribution srel (Some name) suits among = absurd (true≢false suits)

pub all_related : (zones : List NamedZone) → AllByRecursion HasHeadForms (map head_of zones)
    → AreRelated (map head_of zones) → All (λ z. IsRelated zones z.zone.kind z.zone.srel z.zone.related) zones
all_related zones forms related =
    All-from_recursion (λ z. IsRelated zones z.zone.kind z.zone.srel z.zone.related) zones
    (each zones (recursion_unmap head_of HasHeadForms zones forms)
    (recursion_unmap head_of (IsRelatedAmong (map head_of zones)) zones
    (recursion_from_All (IsRelatedAmong (map head_of zones)) (map head_of zones) related.related)))
  where
    each : (zs : List NamedZone) → AllByRecursion (λ z. HasHeadForms (head_of z)) zs
        → AllByRecursion (λ z. IsRelatedAmong (map head_of zones) (head_of z)) zs
        → AllByRecursion (λ z. IsRelated zones z.zone.kind z.zone.srel z.zone.related) zs
    each [] f r = tt
    each (z ∷ zs) f r = (
      is_related zones z.zone.kind z.zone.srel z.zone.related f.0.suits r.0,
      each zs f.1 r.1,
    )

pub all_apart : (zones : List NamedZone) → AreRelated (map head_of zones) → AllPairs AreApart zones
all_apart zones related = pairs_unmap AreApart HeadsAreApart head_of (λ a b apart. apart) zones related.apart

pub names_rise : (zones : List NamedZone) → Rises (slice_cmp nat_cmp) (λ h. h.name) (map head_of zones)
    → IsRising (map (λ z. z.name) zones)
names_rise zones rise =
    pairs_map (λ (a b : NamedZone). IsTrue (is_before a.name b.name)) (λ x y. IsTrue (is_before x y))
    (λ (z : NamedZone). z.name) (λ a b lower. lower) zones
    (pairs_unmap (λ (a b : NamedZone). IsTrue (is_before a.name b.name))
    (λ (a b : ZoneHead). IsTrue (is_lt (slice_cmp nat_cmp a.name b.name))) head_of (λ a b lower. lower) zones rise)

-- ---- rows that name a zone

names : NamedZone → Row → Bool
names z row = has_key (name_key z.name) row

-- a row names one zone
not_both : (x y : Word) (row : Row) → bytes_eq x y ≡ false → has_key (name_key x) row ≡ true
    → has_key (name_key y) row ≡ true → ⊥
unfolding first_key
not_both x y [] other p q = absurd (true≢false (sym p))
not_both x y (c ∷ cells) other p q =
    let row : Word → Row = λ name. Null ∷ Text name ∷ [] in
    let one : agree plain (1 ∷ []) (row x) (1 ∷ []) (Null ∷ c ∷ []) ≡ true =
    agree_back plain (1 ∷ []) (1 ∷ []) (Null ∷ c ∷ []) (row x) p in
    let both : agree plain (1 ∷ []) (row x) (1 ∷ []) (row y) ≡ true =
    agree_chain plain (1 ∷ []) (1 ∷ []) (1 ∷ []) (row x) (Null ∷ c ∷ []) (row y) one q in
    true≢false (sym (sym (equals x y) ∙ (and_parts _ _ both).0) ∙ other)

apart_rows : (zones : List NamedZone) → Rises (slice_cmp nat_cmp) (λ (z : NamedZone). z.name) zones
    → (f : NamedZone → List Row) → AllApart f names zones
unfolding names
apart_rows [] rise f = tt
apart_rows (z ∷ zones) rise f = (
  from zones (AllPairs_first Below z zones rise),
  apart_rows zones (AllPairs_rest Below z zones rise) f,
)
  where
    Below : NamedZone → NamedZone → Type 0
    Below a b = IsTrue (is_lt (slice_cmp nat_cmp a.name b.name))

    is_false : (b : Bool) → (b ≡ true → ⊥) → b ≡ false
    is_false true never = absurd (never refl)
    is_false false never = refl

    from : (zs : List NamedZone) → All (Below z) zs
        → AllByRecursion (λ w. (row : Row) → names z row ≡ true → names w row ≡ false) zs
    from [] below = tt
    from (w ∷ zs) below = (
      λ row own. is_false (names w row) (not_both z.name w.name row (other_from_less z.name w.name
          (Less_from_is_lt (slice_cmp nat_cmp z.name w.name) (All-head (Below z) w zs below))) own),
      from zs (All-tail (Below z) w zs below),
    )

module _ (r : Schema) (contents : Contents) (db : Database) (zones : List NamedZone)
    (held : HasContents (schema_under r) contents db) (h : HoldsZones r contents zones) where
  zone_rows : IsPermutation (map zone_row zones) (contents zone.tree)
  zone_rows = subst (λ rows. IsPermutation rows (contents zone.tree)) (rows_are zones) h.heads.rows
    where
      rows_are : (zs : List NamedZone) → map Rattle.store_zones.specs.Heads.head_row (map head_of zs) ≡ map zone_row zs
      rows_are [] = refl
      rows_are (z ∷ zs) = ap (λ rows. zone_row z ∷ rows) (rows_are zs)

  rise : Rises (slice_cmp nat_cmp) (λ (z : NamedZone). z.name) zones
  rise = pairs_unmap (λ (a b : NamedZone). IsTrue (is_lt (slice_cmp nat_cmp a.name b.name)))
      (λ (a b : ZoneHead). IsTrue (is_lt (slice_cmp nat_cmp a.name b.name))) head_of (λ a b lower. lower) zones
      h.heads.rise

  pub all_rows : (t : Table) → Refers r t → (f : NamedZone → List Row)
      → AllByRecursion (λ z. IsPermutation (f z) (rows_named z.name t contents)) zones
      → IsPermutation (flat_map f zones) (contents t.tree)
  unfolding names
  all_rows t refers f each = parted f names zones (contents t.tree) (apart_rows zones rise f) each
      (λ y at. names_zone r t refers contents db zones (zone_listed r) held zone_rows y at)

  pub zones_are : IsPermutation (map zone_row zones) (contents zone.tree)
  zones_are = zone_rows

  pub entries_are : IsPermutation (flat_map entries_of zones) (contents entry.tree)
  entries_are = all_rows entry (entry_refers r) entries_of
      (recursion_weaker (HoldsZone contents) (λ z. IsPermutation (entries_of z) (rows_named z.name entry contents))
      (λ z own. own.entries) zones h.each)

  pub elements_are : IsPermutation (flat_map zelems_of zones) (contents zelem.tree)
  elements_are = all_rows zelem (element_refers r) zelems_of
      (recursion_weaker (HoldsZone contents) (λ z. IsPermutation (zelems_of z) (rows_named z.name zelem contents))
      (λ z own. own.elements) zones h.each)
