-- Rows that name their zone, and the items that they are in the zone of a name.
use Rattle.std.proofs.Common.{◌≡◌, List, [], ◌∷◌, map, filter, IsPermutation, sym, ap, ap₂, refl, subst, ◌∙◌}
use Rattle.std.specs.Prelude.{drop}
use Rattle.std.specs.List.{AllByRecursion}
use Rattle.std.specs.declared.cmp.Ordering.{Ordering}
use Rattle.std.specs.Cmp.{IsTotalOrder}
use Rattle.std.specs.Str.{bytes_eq}
use Rattle.std.proofs.lemmas.List.{map-id}
use Rattle.std.proofs.lemmas.List.Sorted.{IsPermutation-map, IsPermutation-sym, IsPermutation-trans}
use Rattle.sqlite.specs.declared.types.Value.TheVariants as value
use Rattle.sqlite.specs.Order.{Row}
use Rattle.sqlite.specs.Table.{Table}
use Rattle.sqlite_rules.proofs.ListLemmas.{all_from, all_has, has_filtered}
use Rattle.sqlite_trees.proofs.ListLemmas.{map-map}
use Rattle.store_rows.specs.Rows.{Contents, has_key}
use Rattle.store_rows.proofs.RowLemmas.{has_permuted, mapped, same_rows}
use Rattle.store_rows.proofs.Unmapped.{unmapped_permutation}
use Rattle.store_schema.specs.Asked.{asked}
use Rattle.terms.proofs.Each.{recursion_map, recursion_unmap}
use Rattle.terms.proofs.TextOrder.{same_from}
use Rattle.terms.specs.Rising.{Rises}
use Rattle.terms.specs.Types.{Text}
use Rattle.terms.proofs.RisingAlike.{rises_alike}
use Rattle.store_schema.proofs.WrittenLists.{rising_same}
use Rattle.store_zones.specs.declared.zone_rows.ZoneRow.{ZoneRow}
use Rattle.store_zones.specs.Held.{name_key, rows_named, HoldsItems, in_zone}
use Rattle.store_zones.proofs.ZoneRows.{first_cell}

abbrev pub with_zone : {X : Type 0} → Text → X → ZoneRow X
with_zone name x = record { zone = name; item = x }

abbrev item_of : {X : Type 0} → ZoneRow X → X
item_of r = r.item

-- a row that begins with the name of its zone has the name as its key
pub meets_named : {X : Type 0} (row_of : ZoneRow X → Row)
    → ((r : ZoneRow X) → row_of r ≡ value.Text r.zone ∷ drop 1 (row_of r)) → (name other : Text) (x : X)
    → has_key (name_key name) (in_zone row_of other x) ≡ bytes_eq other name
meets_named row_of named name other x =
    ap (has_key (name_key name)) (named (with_zone other x))
    ∙ first_cell name other (drop 1 (row_of (with_zone other x)))

-- by an order that answers alike they rise too
pub held_alike : {X K : Type 0} {table : Table} {row : Text → X → Row} {HasForm : ZoneRow X → Type 0}
    (R S : K → K → Ordering) → ((a b : K) → R a b ≡ S a b) → {key : X → K} (contents : Contents) (name : Text)
    (xs : List X) → HoldsItems table row HasForm S key contents name xs
    → HoldsItems table row HasForm R key contents name xs
held_alike R S same {key} contents name xs h = record {
  rows = h.rows;
  forms = h.forms;
  rise = rises_alike R S same key xs h.rise;
}

-- rows in any order, without the name of their zone
pub without_zone : {X : Type 0} (name : Text) (rs : List (ZoneRow X)) (xs : List X)
    → IsPermutation rs (map (with_zone name) xs) → IsPermutation (map (λ (r : ZoneRow X). r.item) rs) xs
without_zone {X} name rs xs same =
    subst (IsPermutation (map item_of rs)) (map-map item_of (with_zone name) xs ∙ map-id xs)
    (IsPermutation-map item_of rs (map (with_zone name) xs) same)

-- those that all name one zone
named_alike : {X : Type 0} (name : Text) (rs : List (ZoneRow X)) → AllByRecursion (λ (r : ZoneRow X). r.zone ≡ name) rs
    → rs ≡ map (with_zone name) (map item_of rs)
named_alike name [] h = refl
named_alike name (r ∷ rs) h = ap₂ ◌∷◌ (ap (λ z. record r { zone = z }) h.0) (named_alike name rs h.1)

module _ {X K : Type 0} (table : Table) (row : Text → X → Row) (HasForm : ZoneRow X → Type 0) (cmp : K → K → Ordering)
    (key : X → K) where
  abbrev row_of : ZoneRow X → Row
  row_of r = row r.zone r.item

  abbrev Holds : Contents → Text → List X → Type 0
  Holds = HoldsItems table row HasForm cmp key

  -- what was read by the name
  module _ (meets : (name other : Text) (x : X) → has_key (name_key name) (row other x) ≡ bytes_eq other name) where
    named : (name : Text) (all : List Row) (rs : List (ZoneRow X))
        → IsPermutation (map row_of rs) (filter (has_key (name_key name)) all)
        → rs ≡ map (with_zone name) (map item_of rs)
    named name all rs same =
        named_alike name rs (all_from (λ (r : ZoneRow X). r.zone ≡ name) rs (λ r there.
        let asks = has_permuted (map row_of rs) (filter (has_key (name_key name)) all) (row_of r) same
        (mapped row_of rs r there) in
        let meant = (has_filtered (has_key (name_key name)) all (row_of r) asks).1 in
        same_from r.zone name (sym (meets name r.zone r.item) ∙ meant)))

    pub items_held : (contents : Contents) (name bytes : Text) → bytes ≡ name → (rs : List (ZoneRow X)) (xs : List X)
        → IsPermutation (map row_of rs) (asked (name_key bytes) (contents table.tree)) → AllByRecursion HasForm rs
        → IsPermutation (map (λ (r : ZoneRow X). r.item) rs) xs → Rises cmp key xs → Holds contents name xs
    items_held contents name bytes is rs xs read forms same rise =
        let items = map item_of rs in
        let all = rows_named name table contents in
        let own : IsPermutation (map row_of rs) all = subst (λ b. IsPermutation (map row_of rs)
        (asked (name_key b) (contents table.tree))) is read in
        let alike : rs ≡ map (with_zone name) items = named name (contents table.tree) rs own in
        let rows : map row_of rs ≡ map (row name) items = ap (map row_of) alike
        ∙ map-map row_of (with_zone name) items in
        let formed : AllByRecursion (λ x. HasForm (with_zone name x)) items =
        recursion_unmap (with_zone name) HasForm items (subst (AllByRecursion HasForm) alike forms) in
        record {
          rows = IsPermutation-trans (map (row name) xs) (map (row name) items) all
              (IsPermutation-map (row name) xs items (IsPermutation-sym items xs same))
              (subst (λ l. IsPermutation l all) rows own);
          forms = all_from (λ x. HasForm (with_zone name x)) xs (λ x there.
              all_has (λ y. HasForm (with_zone name y)) items x formed
              (has_permuted xs items x (IsPermutation-sym items xs same) there));
          rise = rise;
        }

  -- the items as rows that name the zone
  pub rows_held : (contents : Contents) (name bytes : Text) → bytes ≡ name → (xs : List X) → Holds contents name xs
      → IsPermutation (map row_of (map (with_zone name) xs)) (asked (name_key bytes) (contents table.tree))
  rows_held contents name bytes is xs h =
      IsPermutation-trans _ _ _ (same_rows (map-map row_of (with_zone name) xs))
      (subst (λ b. IsPermutation (map (row name) xs) (asked (name_key b) (contents table.tree))) (sym is) h.rows)

  pub forms_held : (contents : Contents) (name : Text) (xs : List X) → Holds contents name xs
      → AllByRecursion HasForm (map (with_zone name) xs)
  forms_held contents name xs h = recursion_map (with_zone name) HasForm xs h.forms

  -- the tables hold one list of them
  pub items_same : IsTotalOrder cmp
      → ((a b : ZoneRow X) → HasForm a → HasForm b → row_of a ≡ row_of b → a ≡ b)
      → (contents : Contents) (name : Text) (xs ys : List X) → Holds contents name xs → Holds contents name ys → xs ≡ ys
  items_same order exact contents name xs ys p q =
      rising_same order key xs ys (unmapped_permutation (row name) (λ x. HasForm (with_zone name x))
      (λ a b f g e. ap item_of (exact (with_zone name a) (with_zone name b) f g e)) xs ys p.forms q.forms
      (IsPermutation-trans (map (row name) xs) (rows_named name table contents) (map (row name) ys) p.rows
      (IsPermutation-sym (map (row name) ys) (rows_named name table contents) q.rows))) p.rise q.rise
