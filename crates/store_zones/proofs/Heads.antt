-- The rows of zones as heads.
use Rattle.std.proofs.Common.{◌≡◌, inl, inr, List, [], ◌∷◌, map, filter, Option, None, Some, IfSome, IsTrue}
use Rattle.std.proofs.Common.{IsPermutation, arith, refl, sym, ap, subst, subst₂, ◌∙◌}
use Rattle.std.specs.Prelude.{option_map}
use Rattle.std.specs.Option.{option_map_or, option_to_list}
use Rattle.std.specs.List.{AllByRecursion, flat_map}
use Rattle.std.specs.Ordering.{nat_cmp}
use Rattle.std.specs.Cmp.Lexicographic.{slice_cmp}
use Rattle.std.proofs.lemmas.List.{length-map}
use Rattle.std.proofs.Math.ListN.{get_or-map}
use Rattle.std.proofs.lemmas.Cmp.{nat_list_cmp_total}
use Rattle.std.proofs.lemmas.List.Sorted.{length_permutation, IsPermutation-map, IsPermutation-sym}
use Rattle.std.proofs.lemmas.List.Sorted.{IsPermutation-trans}
use Rattle.sqlite.specs.Order.{Row}
use Rattle.sqlite_rules.specs.Lists.{Has}
use Rattle.sqlite_rules.proofs.ListLemmas.{all_from, all_has, has_contained, has_filtered}
use Rattle.sqlite_trees.proofs.ListLemmas.{map-map}
use Rattle.store_rows.specs.Rows.{Contents, has_key}
use Rattle.store_rows.proofs.RowLemmas.{has_permuted, same_rows}
use Rattle.store_rows.proofs.Unmapped.{unmapped_permutation}
use Rattle.store_schema.specs.Asked.{asked}
use Rattle.store_schema.proofs.UnderEach.{rows_under}
use Rattle.terms.proofs.TextOrder.{same_from}
use Rattle.terms.specs.declared.kinds.ZoneKind.{ZoneKind}
use Rattle.terms.specs.declared.kinds.ZoneKind.TheVariants.{Target, Distribution}
use Rattle.terms.specs.Types.{Text, Zone, NamedZone}
use Rattle.terms.specs.Forms.{IsZoneName}
use Rattle.terms.specs.Lookups.{is_before, IsRising}
use Rattle.terms.specs.Rising.{Rises}
use Rattle.store_schema.specs.declared.schema.Schema.{Schema}
use Rattle.store_schema.specs.declared.schema.Schema.TheVariants.{First, Second, Third}
use Rattle.store_schema.specs.Inventory.{Inventory, IsInventory, IsZoneNamed, IsRelated}
use Rattle.store_schema.specs.Rows.{zone_row}
use Rattle.store_schema.specs.Tables.{zone}
use Rattle.store_schema.proofs.WrittenLists.{has_all, rising_same}
use Rattle.store_schema.proofs.OneState.{zones_rise}
use Rattle.store_schema.proofs.Spelled.{zone_same, or_null_same}
use Rattle.store_zones.specs.declared.head.ZoneHead.{ZoneHead}
use Rattle.store_zones.specs.Found.{head_in, head_of, zone_in}
use Rattle.store_zones.specs.Held.{name_key, rows_named, HoldsHead, HoldsHeads}
use Rattle.store_zones.specs.Heads.{head_row, HasHeadForms}
use Rattle.store_zones.specs.Related.{AreRelated}
use Rattle.store_zones.proofs.Relations.{heads_related}
use Rattle.store_zones.proofs.ZoneRows.{first_cell, of_zone}
use Rattle.terms.proofs.Each.{recursion_map}

-- a row says all of its head
pub same_head : (a b : ZoneHead) → head_row a ≡ head_row b → a ≡ b
same_head a b e =
    let name : a.name ≡ b.name = cc in
    let kind : a.kind ≡ b.kind = zone_same a.kind b.kind cc in
    let srel : a.srel ≡ b.srel = cc in
    let related : a.related ≡ b.related = or_null_same a.related b.related cc in
    ap (λ x. record a { name = x }) name
    ∙ ap (λ x. record a { name = b.name; kind = x }) kind
    ∙ ap (λ x. record b { srel = x; related = a.related }) srel
    ∙ ap (λ x. record b { related = x }) related

pub exact_head : (a b : ZoneHead) → HasHeadForms a → HasHeadForms b → head_row a ≡ head_row b → a ≡ b
exact_head a b p q e = same_head a b e

-- ---- one zone

pub at_most_one : {X : Type 0} (xs : List X) (o : Option X) → IsPermutation xs (option_to_list o)
    → xs ≡ option_to_list o
at_most_one [] None h = refl
at_most_one [] (Some y) h = absurd (omega (arith, length_permutation [] (y ∷ []) h))
at_most_one (x ∷ xs) None h = absurd (omega (arith, length_permutation (x ∷ xs) [] h))
at_most_one (x ∷ []) (Some y) h = elim (has_permuted (x ∷ []) (y ∷ []) x h (inl refl)) [
  | inl e ↦ ap (λ z. z ∷ []) e
  | inr none ↦ absurd none
]
at_most_one (x ∷ w ∷ xs) (Some y) h = absurd (omega (arith, length_permutation (x ∷ w ∷ xs) (y ∷ []) h))

abbrev row_in : Text → Zone → Row
row_in name zone = zone_row (record { name = name; zone = zone })

abbrev itself : Zone → List Zone
itself zone = zone ∷ []

by_zones : (zones : List NamedZone) → map zone_row zones ≡ flat_map (λ z. map (row_in z.name) (itself z.zone)) zones
by_zones [] = refl
by_zones (z ∷ zones) = ap (λ rows. zone_row z ∷ rows) (by_zones zones)

head_rows_of : (name : Text) (found : Option Zone) → map (row_in name) (option_map_or itself found []) ≡ map head_row
    (option_to_list (option_map (head_in name) found))
head_rows_of name None = refl
head_rows_of name (Some z) = refl

-- the rows of a zone's name are its head's
pub own_heads : (i : Inventory) → IsInventory i → (name : Text)
    → filter (has_key (name_key name)) (map zone_row i.zones)
    ≡ map head_row (option_to_list (option_map (head_in name) (zone_in i name)))
own_heads i h name = ap (filter (has_key (name_key name))) (by_zones i.zones)
    ∙ of_zone row_in itself name (λ other x. first_cell name other []) i.zones (zones_rise i h)
    ∙ head_rows_of name (zone_in i name)

related_name : (i : Inventory) → IsInventory i → (kind : ZoneKind) (srel : Text) (related : Option Text)
    → IsRelated i.zones kind srel related → IfSome related IsZoneName
related_name i h Target srel None r = absurd r
related_name i h Target srel (Some name) r = subst IsZoneName r.2
    (has_all IsZoneNamed i.zones r.0 h.zones (has_contained i.zones r.0 r.1)).name
related_name i h Distribution srel related r = subst (λ o. IfSome o IsZoneName) (sym r) tt

pub head_forms : (i : Inventory) → IsInventory i → (z : NamedZone) → Has i.zones z → HasHeadForms (head_of z)
head_forms i h z there =
    let named = has_all IsZoneNamed i.zones z h.zones there in
    let related = has_all (λ w. IsRelated i.zones w.zone.kind w.zone.srel w.zone.related) i.zones z h.related there in
    record {
      name = named.name;
      srel = named.forms.srel;
      related = related_name i h z.zone.kind z.zone.srel z.zone.related related;
      not_global = named.not_global;
      suits = named.zone.related;
    }

-- the rows that a query by the name asks for
pub rows_asked : (contents : Contents) (name bytes : Text) → bytes ≡ name → (head : Option ZoneHead)
    → HoldsHead contents name head
    → IsPermutation (map head_row (option_to_list head)) (asked (name_key bytes) (contents zone.tree))
rows_asked contents name bytes is head h = same_rows (sym h.rows
    ∙ ap (λ b. asked (name_key b) (contents zone.tree)) (sym is))

to_head : (head : Option ZoneHead) → map head_row (option_to_list head) ≡ option_to_list (option_map head_row head)
to_head None = refl
to_head (Some h) = refl

pub one_row : (contents : Contents) (name bytes : Text) → bytes ≡ name → (heads : List ZoneHead)
    (head : Option ZoneHead) → heads ≡ option_to_list head
    → IsPermutation (map head_row heads) (asked (name_key bytes) (contents zone.tree))
    → AllByRecursion HasHeadForms heads → HoldsHead contents name head
one_row contents name bytes same heads head is rows forms =
    let own : IsPermutation (rows_named name zone contents) (option_to_list (option_map head_row head)) =
    IsPermutation-sym _ _ (subst₂ IsPermutation (ap (map head_row) is ∙ to_head head)
    (ap (λ b. asked (name_key b) (contents zone.tree)) same) rows) in
    record {
      rows = at_most_one (rows_named name zone contents) (option_map head_row head) own ∙ sym (to_head head);
      forms = subst (AllByRecursion HasHeadForms) is forms;
    }

-- a row of the name is a head of this name
pub head_named : (contents : Contents) (name : Text) (head : ZoneHead) → HoldsHead contents name (Some head)
    → head.name ≡ name
head_named contents name head h =
    let named = has_filtered (has_key (name_key name)) (contents zone.tree) (head_row head)
    (subst (λ rows. Has rows (head_row head)) (sym h.rows) (inl refl)) in
    same_from head.name name (sym (first_cell name head.name []) ∙ named.1)

-- the table holds one head of a name, or none
pub heads_same : (contents : Contents) (name : Text) (a b : Option ZoneHead) → HoldsHead contents name a
    → HoldsHead contents name b → a ≡ b
heads_same contents name None None p q = refl
heads_same contents name None (Some h) p q = absurd (let e = sym p.rows ∙ q.rows in cc)
heads_same contents name (Some h) None p q = absurd (let e = sym p.rows ∙ q.rows in cc)
heads_same contents name (Some h) (Some k) p q =
    let e = sym p.rows ∙ q.rows in
    let row : head_row h ≡ head_row k = cc in
    ap Some (exact_head h k p.forms.0 q.forms.0 row)

-- ---- all zones

all_head_rows : (i : Inventory) → IsPermutation (map head_row (map head_of i.zones)) (map zone_row i.zones)
all_head_rows i = same_rows (map-map head_row head_of i.zones)

all_head_forms : (i : Inventory) → IsInventory i → AllByRecursion HasHeadForms (map head_of i.zones)
all_head_forms i h = recursion_map head_of HasHeadForms i.zones
    (all_from (λ z. HasHeadForms (head_of z)) i.zones (head_forms i h))

heads_rise : (i : Inventory) → IsInventory i → Rises (slice_cmp nat_cmp) (λ (a : ZoneHead). a.name)
    (map head_of i.zones)
heads_rise i h = λ k j d less within.
    let heads = map head_of i.zones in
    let name_of : ZoneHead → Text = λ a. a.name in
    let up : IsRising (map name_of heads) = subst IsRising (sym (map-map name_of head_of i.zones)) h.names in
    subst₂ (λ a b. IsTrue (is_before a b)) (get_or-map name_of heads k d) (get_or-map name_of heads j d)
    (up k j (name_of d) less (omega (arith, within, length-map heads name_of)))

-- what was read, by the names
pub heads_read : (contents : Contents) (found table heads : List ZoneHead) → heads ≡ table
    → IsPermutation (map head_row found) (contents zone.tree) → AllByRecursion HasHeadForms found
    → IsPermutation found table → Rises (slice_cmp nat_cmp) (λ (a : ZoneHead). a.name) table → AreRelated heads
    → HoldsHeads contents heads
heads_read contents found table heads is rows forms same rise related =
    let back = IsPermutation-sym found table same in
    subst (HoldsHeads contents) (sym is) (record {
      rows = IsPermutation-trans (map head_row table) (map head_row found) (contents zone.tree)
          (IsPermutation-map head_row table found back) rows;
      forms = all_from HasHeadForms table (λ h there. all_has HasHeadForms found h forms
          (has_permuted table found h back there));
      rise = rise;
      related = subst AreRelated is related;
    })

-- the table holds one list of heads
pub one_list : (contents : Contents) (xs ys : List ZoneHead) → HoldsHeads contents xs → HoldsHeads contents ys → xs ≡ ys
one_list contents xs ys p q =
    rising_same nat_list_cmp_total (λ (a : ZoneHead). a.name) xs ys (unmapped_permutation head_row HasHeadForms
    exact_head xs ys p.forms q.forms (IsPermutation-trans (map head_row xs) (contents zone.tree) (map head_row ys)
    p.rows (IsPermutation-sym (map head_row ys) (contents zone.tree) q.rows))) p.rise q.rise

-- and where it stands for an inventory, those of its zones
pub heads_stand : (r : Schema) (i : Inventory) → IsInventory i → HoldsHeads (rows_under r i) (map head_of i.zones)
heads_stand r i h = record {
  rows = rows r;
  forms = all_head_forms i h;
  rise = heads_rise i h;
  related = heads_related i h;
}
  where
    rows : (r : Schema) → IsPermutation (map head_row (map head_of i.zones)) (rows_under r i zone.tree)
    rows First = all_head_rows i
    rows Second = all_head_rows i
    rows Third = all_head_rows i
