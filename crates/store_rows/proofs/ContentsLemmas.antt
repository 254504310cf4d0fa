-- The columns of rows, and what a statement's edit makes of what the tables hold.
use Rattle.std.proofs.Common.{◌≡◌, ◌≢◌, inl, inr, ℕ, ℤ, zero, suc, ◌+◌, ◌<◌, ◌≤◌, ◌==◌, length, drop, take}
use Rattle.std.proofs.Common.{List, [], ◌∷◌, ◌++◌, map, filter, Bool, true, false, not, ◌&&◌, ◌||◌}
use Rattle.std.proofs.Common.{IsPermutation, arith, refl, sym, ap, subst, ◌∙◌, drop-cons}
use Rattle.std.specs.List.{AllByRecursion, list_all, range_with_len}
use Rattle.std.proofs.lemmas.List.{take_all, take_at, drop_at, length-append, length-drop}
use Rattle.std.proofs.lemmas.List.Sorted.{IsPermutation-sym, IsPermutation-trans, IsPermutation-cons, IsPermutation-map}
use Rattle.std.proofs.lemmas.Bool.Decides.{eqb_tells}
use Rattle.std.proofs.lemmas.Bool.{eqb-true}
use Rattle.sqlite.specs.declared.types.Value.TheVariants.{Null}
use Rattle.sqlite.specs.Collation.TheVariants.{Binary}
use Rattle.sqlite.specs.Order.{Row, column}
use Rattle.sqlite.specs.Term.{holds}
use Rattle.sqlite.specs.Tree.{Trees, rowid, put_row}
use Rattle.sqlite.specs.View.{is_int}
use Rattle.sqlite.specs.Edit.{id_in, is_taken, without_all}
use Rattle.sqlite.specs.Table.{Table}
use Rattle.sqlite.specs.Schema.{Schema}
use Rattle.sqlite.specs.Effect.{Database}
use Rattle.sqlite_schema.specs.Rules.{equal}
use Rattle.sqlite_trees.proofs.ListLemmas.{filter-map, IsPermutation-filter}
use Rattle.sqlite_rules.proofs.ListLemmas.{all_has}
use Rattle.sqlite.proofs.RunLemmas.{has_got}
use Rattle.store_rows.specs.Rows.{shown, has_key, AreRows, AreFound, Contents, HasContents, in_table}
use Rattle.store_rows.specs.Texts.{key_tests, IsTableOf}
use Rattle.store_rows.proofs.RowLemmas.{put_adds, put_numbered, deleted, filter_numbered, filter_all}

dropped : (r : Row) (at : ℕ) → at < length r → drop at r ≡ column r at ∷ drop (at + 1) r
dropped r at h = let e : suc at ≡ at + 1 = omega arith in drop-cons r at Null h ∙ ap (λ k. column r at ∷ drop k r) e

-- so many columns from a place on
pub columns_at : (r : Row) (at n : ℕ) → at + n ≤ length r → map (column r) (range_with_len at n) ≡ take n (drop at r)
columns_at r at zero e = refl
columns_at r at (suc n) e = ap (λ vs. column r at ∷ vs) (columns_at r (at + 1) n (omega arith))
    ∙ sym (ap (take (suc n)) (dropped r at (omega arith)))

-- the columns from a place on to the end
pub columns_from : (r : Row) (at n : ℕ) → at + n ≡ length r → map (column r) (range_with_len at n) ≡ drop at r
columns_from r at n e = columns_at r at n (omega arith) ∙ take_all n (drop at r) (omega (arith, length-drop at r))

-- the columns behind some and before others
pub columns_within : (front mid back : Row) (at n : ℕ) → at ≡ length front → n ≡ length mid
    → map (column (front ++ (mid ++ back))) (range_with_len at n) ≡ mid
columns_within front mid back at n behind long =
    columns_at (front ++ (mid ++ back)) at n
    (omega (arith, behind, long, length-append front (mid ++ back), length-append mid back))
    ∙ ap (take n) (drop_at front (mid ++ back) at (sym behind)) ∙ take_at mid back n (sym long)

-- the tests of a key are those of the columns that it gives
pub meets_from : (params r : Row) (at n m : ℕ) → at + n ≤ length params → n ≤ m
    → list_all (holds (params ∷ r ∷ [])) (key_tests at n) ≡ has_key (take n (drop at params))
    (map (column r) (range_with_len (at + 1) m))
meets_from params r at zero m e le = refl
meets_from params r at (suc n) zero e le = absurd (omega arith)
meets_from params r at (suc n) (suc m) e le =
    ap (λ b. equal Binary (column r (at + 1)) (column params at) && b)
    (meets_from params r (at + 1) n m (omega arith) (omega arith))
    ∙ ap (λ key. has_key (take (suc n) key) (map (column r) (range_with_len (at + 1) (suc m))))
    (sym (dropped params at (omega arith)))

-- ---- one table

pub puts : (table : Table) (held rows : List Row) (new : Row) → is_taken rows new ≡ false → is_int (rowid new) ≡ true
    → AreRows table held rows → AreRows table (shown table new ∷ held) (put_row new rows)
puts table held rows new free keyed h = record {
  same = IsPermutation-trans _ _ _ (IsPermutation-cons (shown table new) _ _ h.same)
      (IsPermutation-map (shown table) _ _ (put_adds new rows free));
  numbered = put_numbered (shown table) new rows free keyed h.numbered;
}

pub takes : (table : Table) (held rows : List Row) (p : Row → Bool) (ids : List ℤ)
    → IsPermutation (map (λ r. id_in (rowid r)) (filter (λ r. p (shown table r)) rows)) ids
    → AreRows table held rows → AreRows table (filter (λ c. not (p c)) held) (without_all rows ids)
takes table held rows p ids found h =
    rw (deleted (shown table) rows h.numbered p ids found) (record {
      same = subst (IsPermutation (filter (λ c. not (p c)) held)) (filter-map (λ c. not (p c)) (shown table) rows)
          (IsPermutation-filter (λ c. not (p c)) _ _ h.same);
      numbered = filter_numbered (shown table) rows h.numbered (λ c. not (p c));
    })

as_wide : (t u : Table) (held rows : List Row) → length u.columns ≡ length t.columns → AreRows u held rows
    → AreRows t held rows
as_wide t u held rows e h = record {
  same = subst (λ n. IsPermutation held (map (λ r. map (column r) (range_with_len 1 n)) rows)) e h.same;
  numbered = subst (λ n. Rattle.store_rows.specs.Numbered.AreNumbered
      (map (λ r. rowid r ∷ map (column r) (range_with_len 1 n)) rows)) e h.numbered;
}

-- ---- all tables

module _ (table : Table) (make : List Row → List Row) (contents : Contents) (db next : Trees)
    (is : AreRows table (make (contents table.tree)) (next table.tree)) where
  one_table : (t : Table) → (not (t.tree == table.tree) || (length t.columns == length table.columns)) ≡ true
      → AreRows t (contents t.tree) (db t.tree) → (t.tree ≢ table.tree → next t.tree ≡ db t.tree)
      → AreRows t (in_table table make contents t.tree) (next t.tree)
  one_table t apart was other = elim (eqb_tells t.tree table.tree) [
    | inl here ↦
        let wide : (length t.columns == length table.columns) ≡ true = rw here.0 at apart in
        rw here.0 (subst (λ k. AreRows t (make (contents k)) (next k)) (sym here.1)
        (as_wide t table _ _ (sym (eqb-true _ _ wide)) is))
    | inr away ↦ rw (away.0, other away.1) was
  ]

  pub each_table : (tables : List Table) → list_all (λ (t : Table).
      not (t.tree == table.tree) || (length t.columns == length table.columns)) tables ≡ true
      → AllByRecursion (λ t. AreRows t (contents t.tree) (db t.tree)) tables
      → AllByRecursion (λ t. t.tree ≢ table.tree → next t.tree ≡ db t.tree) tables
      → AllByRecursion (λ t. AreRows t (in_table table make contents t.tree) (next t.tree)) tables
  each_table [] apart was others = tt
  each_table (t ∷ tables) apart was others =
      let both = Rattle.std.proofs.lemmas.Bool.and_parts _ _ apart in
      (one_table t both.0 was.0 others.0, each_table tables both.1 was.1 others.1)

pub held_at : (schema : Schema) (at : ℕ) (table : Table) (contents : Contents) (db : Trees) → IsTableOf schema at table
    → AllByRecursion (λ t. AreRows t (contents t.tree) (db t.tree)) schema.tables
    → AreRows table (contents table.tree) (db table.tree)
held_at schema at table contents db there h = all_has (λ t. AreRows t (contents t.tree) (db t.tree)) schema.tables table
    h (has_got schema.tables at table there.found)

-- what a query found is what the table holds with the key
pub found_are : (table : Table) (key : Row) (held found rows : List Row) → AreRows table held rows
    → AreFound table key found rows → IsPermutation found (filter (has_key key) held)
found_are table key held found rows are h = IsPermutation-trans _ _ _ h
    (IsPermutation-filter (has_key key) _ _ (IsPermutation-sym _ _ are.same))

pub found_with : (table : Table) (key : Row) (held found rows : List Row) → AreRows table held rows
    → IsPermutation found (filter (has_key key) held) → AreFound table key found rows
found_with table key held found rows are h = IsPermutation-trans _ _ _ h
    (IsPermutation-filter (has_key key) _ _ are.same)

-- with no key a query finds what the table holds
pub all_found : (table : Table) (held found rows : List Row) → AreRows table held rows → AreFound table [] found rows
    → IsPermutation found held
all_found table held found rows are h = subst (IsPermutation found) (filter_all held)
    (found_are table [] held found rows are h)

pub found_all : (table : Table) (held found rows : List Row) → AreRows table held rows → IsPermutation found held
    → AreFound table [] found rows
found_all table held found rows are h = subst (IsPermutation found) (sym (filter_all (map (shown table) rows)))
    (IsPermutation-trans _ _ _ h are.same)

permuted_by : (tables : List Table) (c d : Contents) (trees : Trees)
    → AllByRecursion (λ t. IsPermutation (d t.tree) (c t.tree)) tables
    → AllByRecursion (λ t. AreRows t (c t.tree) (trees t.tree)) tables
    → AllByRecursion (λ t. AreRows t (d t.tree) (trees t.tree)) tables
permuted_by [] c d trees same h = tt
permuted_by (t ∷ tables) c d trees same h = (
  record { same = IsPermutation-trans _ _ _ same.0 h.0.same; numbered = h.0.numbered },
  permuted_by tables c d trees same.1 h.1,
)

-- the order in which the rows are told is free
pub permuted : (schema : Schema) (c d : Contents) (db : Database)
    → AllByRecursion (λ t. IsPermutation (d t.tree) (c t.tree)) schema.tables → HasContents schema c db
    → HasContents schema d db
permuted schema c d db same h = record {
  schema_is = h.schema_is;
  sound = h.sound;
  tables = permuted_by schema.tables c d db.trees same h.tables;
}
