-- What the keys of a sound database say of the rows of SYSMODs.
use Rattle.std.proofs.Common.{◌≡◌, ◌≤◌, inl, inr, arith, true≢false, ℕ, ℤ, IsTrue, List, [], ◌∷◌, map, filter, length}
use Rattle.std.proofs.Common.{Bool, true, false, not, ◌&&◌, ◌||◌, Less, IsPermutation, refl, sym, ap}
use Rattle.std.proofs.Common.{ap₂, subst, ◌∙◌}
use Rattle.std.specs.List.{AllByRecursion, list_any}
use Rattle.std.specs.Ordering.{is_ne, ordering_reverse}
use Rattle.std.proofs.lemmas.List.{length-map}
use Rattle.std.proofs.lemmas.List.Sorted.{IsPermutation-sym, length_permutation}
use Rattle.sqlite.specs.declared.types.Value.{Value}
use Rattle.sqlite.specs.declared.types.Value.TheVariants.{Null, Int, Real, Text, Blob}
use Rattle.sqlite.specs.Collation.TheVariants.{Binary}
use Rattle.sqlite.specs.Effect.{Database}
use Rattle.sqlite.specs.Order.{Row, column, value_cmp}
use Rattle.sqlite.specs.Ops.{binary, is_null}
use Rattle.sqlite.specs.Tree.{Trees, IsTable, rowid}
use Rattle.sqlite.specs.View.{is_int}
use Rattle.sqlite.specs.Edit.{id_in}
use Rattle.sqlite_value.specs.Keys.{first_key, joined}
use Rattle.sqlite_value.proofs.OrderLemmas.{value_cmp_total}
use Rattle.sqlite_schema.specs.declared.schema.Constraint.{Constraint}
use Rattle.sqlite_schema.specs.declared.schema.Constraint.TheVariants.{ForeignKey, Unique}
use Rattle.sqlite_schema.specs.Names.{same_name}
use Rattle.sqlite_schema.specs.Rules.{Keeps, passes, equal, differ, clashes, guards}
use Rattle.sqlite_trees.proofs.ListLemmas.{filter-map, IsPermutation-filter}
use Rattle.sqlite_rules.specs.Lists.{Has}
use Rattle.sqlite_rules.proofs.ListLemmas.{all_has, test_has, some_has, some_from, has_filtered, has_got}
use Rattle.sqlite_rules.proofs.TableLemmas.{int_is}
use Rattle.terms.proofs.TextOrder.{same_from, same_itself}
use Rattle.terms.specs.Types.{Id}
use Rattle.store_rows.specs.Rows.{Contents, HasContents, AreRows, has_key, shown}
use Rattle.store_rows.proofs.ContentsLemmas.{held_at}
use Rattle.store_rows.proofs.Keys.{told, equals, and_true}
use Rattle.store_rows.proofs.RowLemmas.{has_permuted, unmapped, mapped, filter_numbered, whole}
use Rattle.store_schema.specs.Tables.{store_schema, sysmod, source, index_of}
use Rattle.store_sysmods.specs.Sysmods.{sysmod_key}
use Rattle.store_sysmods.proofs.Texts.{puts_sysmod, puts_source}

-- what is equal to a text is that text
text_alone : (v : Value) (t : List ℕ) → equal Binary v (Text t) ≡ true → v ≡ Text t
unfolding binary value_cmp
text_alone Null t is = absurd (true≢false (sym is))
text_alone (Int n) t is = absurd (true≢false (sym is))
text_alone (Real x) t is = absurd (true≢false (sym is))
text_alone (Text u) t is = ap Text (same_from u t (sym (equals u t) ∙ is))
text_alone (Blob b) t is = absurd (true≢false (sym is))

numbers_differ : (m n : ℤ) → differ (Int m) (Int n) ≡ is_ne (value_cmp (Int m) (Int n))
unfolding binary
numbers_differ m n = told (is_ne (value_cmp (Int m) (Int n)))

-- rowids that rise differ
differs : (a b : Value) → is_int a ≡ true → is_int b ≡ true → value_cmp a b ≡ Less → differ b a ≡ true
differs a b is_a is_b below =
    ap₂ (λ x y. differ y x) (int_is a is_a) (int_is b is_b) ∙ numbers_differ (id_in b) (id_in a)
    ∙ ap₂ (λ x y. is_ne (value_cmp y x)) (sym (int_is a is_a)) (sym (int_is b is_b))
    ∙ ap is_ne (value_cmp_total.antisymm b a ∙ ap ordering_reverse below)

-- whether another SYSMOD has the id
clash_by : (trees : Trees) (r : Row) → (guards (index_of sysmod) sysmod
    && clashes (index_of sysmod).order (index_of sysmod).columns (trees sysmod.tree) r)
    ≡ list_any (λ other. (equal Binary (column other 1) (column r 1) && true) && differ (rowid other) (rowid r))
    (trees sysmod.tree)
unfolding first_key
clash_by trees r = refl

-- whether the SYSMOD of a source is there
parent_by : (trees : Trees) (r : Row) → passes ForeignKey store_schema trees source r
    ≡ (((is_null (column r 1) || false)
    || list_any (λ parent. equal Binary (column parent 1) (column r 1) && true) (trees sysmod.tree)) && true)
unfolding same_name joined first_key
parent_by trees r = refl

module _ (contents : Contents) (db : Database) (held : HasContents store_schema contents db) where
  rules : (rule : Constraint) → Keeps rule store_schema db.trees
  rules rule = subst (λ s. Keeps rule s db.trees) held.schema_is (held.sound.obeys.rules rule)

  sysmods : AreRows sysmod (contents sysmod.tree) (db.trees sysmod.tree)
  sysmods = held_at store_schema 1 sysmod contents db.trees puts_sysmod.there held.tables

  sources : AreRows source (contents source.tree) (db.trees source.tree)
  sources = held_at store_schema 9 source contents db.trees puts_source.there held.tables

  -- ---- a source is of a SYSMOD that is there

  pub has_sysmod : (x : Id) (cells : Row) → Has (contents source.tree) (Text x ∷ cells)
      → (row : Row) × Has (contents sysmod.tree) row × (has_key (sysmod_key x) row ≡ true)
  has_sysmod x cells has =
      let it = unmapped (shown source) (db.trees source.tree) (Text x ∷ cells)
      (has_permuted _ _ _ sources.same has) in
      let id : column it.0 1 ≡ Text x = sym (ap (λ row. column row 0) it.2) in
      let kept = all_has (λ row. passes ForeignKey store_schema db.trees source row ≡ true) (db.trees source.tree) it.0
      (all_has (λ t. AllByRecursion (λ row. passes ForeignKey store_schema db.trees t row ≡ true) (db.trees t.tree))
      store_schema.tables source (rules ForeignKey) (has_got store_schema.tables 9 source refl)) it.1 in
      let some = subst (λ v. ((is_null v || false)
      || list_any (λ parent. equal Binary (column parent 1) v && true) (db.trees sysmod.tree)) ≡ true) id
      (sym (and_true _) ∙ sym (parent_by db.trees it.0) ∙ kept) in
      let parent = some_has (λ parent. equal Binary (column parent 1) (Text x) && true) (db.trees sysmod.tree) some in (
        shown sysmod parent.0,
        has_permuted _ _ _ (IsPermutation-sym _ _ sysmods.same) (mapped (shown sysmod) _ parent.0 parent.1),
        parent.2,
      )

  -- ---- no two SYSMODs have one id

  module _ (id : Id) where
    abbrev has_id : Row → Bool
    has_id = has_key (sysmod_key id)

    -- the rows of the id, and what is kept of each in order
    abbrev of_id : List Row
    of_id = filter (λ r. has_id (shown sysmod r)) (db.trees sysmod.tree)

    abbrev wholes : List Row
    wholes = map (whole (shown sysmod)) of_id

    was_found : (w : Row) → Has wholes w
        → (r : Row) × Has (db.trees sysmod.tree) r × (column r 1 ≡ Text id) × (rowid w ≡ rowid r)
    was_found w has =
        let it = unmapped (whole (shown sysmod)) of_id w has in
        let from = has_filtered (λ r. has_id (shown sysmod r)) (db.trees sysmod.tree) it.0 it.1 in
        (it.0, from.0, text_alone (column it.0 1) id (sym (and_true _) ∙ from.1), ap rowid it.2)

    one_in_order : (sorted : List Row) → IsPermutation wholes sorted → IsTable sorted
        → AllByRecursion (λ r. IsTrue (is_int (rowid r))) sorted → length sorted ≤ 1
    one_in_order [] same rise keyed = omega arith
    one_in_order (a ∷ []) same rise keyed = omega arith
    one_in_order (a ∷ b ∷ rest) same rise keyed =
        let back = IsPermutation-sym wholes (a ∷ b ∷ rest) same in
        let one = was_found a (has_permuted (a ∷ b ∷ rest) wholes a back (inl refl)) in
        let two = was_found b (has_permuted (a ∷ b ∷ rest) wholes b back (inr (inl refl))) in
        let same_id : (equal Binary (column two.0 1) (column one.0 1) && true) ≡ true =
        and_true _ ∙ ap₂ (equal Binary) two.2 one.2 ∙ equals id id ∙ same_itself id in
        let other_row : differ (rowid two.0) (rowid one.0) ≡ true =
        ap₂ differ (sym two.3) (sym one.3) ∙ differs (rowid a) (rowid b) keyed.0 keyed.1.0 rise.0.0 in
        let clash = some_from (λ other. (equal Binary (column other 1) (column one.0 1) && true)
        && differ (rowid other) (rowid one.0)) (db.trees sysmod.tree) two.0 two.1 (ap₂ ◌&&◌ same_id other_row) in
        let alone = all_has (λ row. passes Unique store_schema db.trees sysmod row ≡ true) (db.trees sysmod.tree) one.0
        (all_has (λ t. AllByRecursion (λ row. passes Unique store_schema db.trees t row ≡ true) (db.trees t.tree))
        store_schema.tables sysmod (rules Unique) (has_got store_schema.tables 1 sysmod refl)) one.1 in
        let none = test_has (λ i. not (guards i sysmod && clashes i.order i.columns (db.trees sysmod.tree) one.0))
        store_schema.indexes (index_of sysmod) alone (has_got store_schema.indexes 1 (index_of sysmod) refl) in
        absurd (true≢false (sym none ∙ ap not (clash_by db.trees one.0 ∙ clash)))

    pub at_most_one : length (filter has_id (contents sysmod.tree)) ≤ 1
    at_most_one =
        let all = db.trees sysmod.tree in
        let numbered = filter_numbered (shown sysmod) all sysmods.numbered has_id in
        let few = one_in_order numbered.sorted numbered.same numbered.rise numbered.keyed in
        let as_found = length_permutation _ _ (IsPermutation-filter has_id _ _ sysmods.same) in
        let as_shown = ap length (filter-map has_id (shown sysmod) all) in
        let by_rows = length-map of_id (shown sysmod) in
        let by_wholes = length-map of_id (whole (shown sysmod)) in
        let as_sorted = length_permutation wholes numbered.sorted numbered.same in
        omega (arith, few, as_found, as_shown, by_rows, by_wholes, as_sorted)
