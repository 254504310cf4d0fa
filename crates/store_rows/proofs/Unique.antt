-- A key of texts that is unique in its table: at most one row has it, and an INSERT finds that row.
use Rattle.std.proofs.Common.{◌≡◌, ℕ, ℤ, zero, suc, ◌+◌, ◌≤◌, length, take, replicate, List, [], ◌∷◌, map, filter}
use Rattle.std.proofs.Common.{Bool, true, false, true≢false, not, ◌&&◌, ◌||◌, Some, Ordering, Less, Equal, Greater}
use Rattle.std.proofs.Common.{IsPermutation, bytes_eq, inl, inr, arith, refl, sym, ap, ap₂, subst, subst₂, ◌∙◌}
use Rattle.std.proofs.Common.{add-one}
use Rattle.std.specs.List.{AllByRecursion, list_any, list_all, range_with_len}
use Rattle.std.specs.Ordering.{is_eq}
use Rattle.std.proofs.lemmas.Bool.{cases_Bool, and_parts, or_parts, or_from, not-true}
use Rattle.std.proofs.lemmas.Cmp.{tied_back}
use Rattle.std.proofs.lemmas.List.Sorted.{IsPermutation-sym, length_permutation}
use Rattle.terms.proofs.Orderings.{Equal_from_is_eq}
use Rattle.terms.proofs.TextOrder.{same_from, same_itself}
use Rattle.sqlite.specs.declared.types.Value.{Value}
use Rattle.sqlite.specs.declared.types.Value.TheVariants.{Null, Int, Real, Text, Blob}
use Rattle.sqlite.specs.Term.{holds}
use Rattle.sqlite.specs.Cast.{cast}
use Rattle.sqlite.specs.Kind.TheVariants as kind
use Rattle.sqlite.specs.Collation.TheVariants.{Binary}
use Rattle.sqlite.specs.Order.{Row, column, value_cmp}
use Rattle.sqlite.specs.Ops.{binary, is_null}
use Rattle.sqlite.specs.Tree.{Trees, IsTable, rowid}
use Rattle.sqlite.specs.Table.{Table}
use Rattle.sqlite.specs.Schema.{Schema}
use Rattle.sqlite_value.specs.Keys.{plain, first_key}
use Rattle.std.proofs.lemmas.Map.Text.{is_eq-slice_cmp}
use Rattle.sqlite_value.proofs.OrderLemmas.{value_cmp_total, value_cmp-Text, value_cmp-Blob}
use Rattle.sqlite_schema.specs.declared.schema.Column.{Column}
use Rattle.sqlite_schema.specs.declared.schema.Index.{Index}
use Rattle.sqlite_schema.specs.declared.schema.Constraint.TheVariants.{Unique}
use Rattle.sqlite_schema.specs.Rules.{Obeys, equal, differ, agree, clashes, guards}
use Rattle.sqlite_rules.specs.Keys.{conflicts, shares}
use Rattle.sqlite_rules.specs.Lists.{Has}
use Rattle.sqlite_rules.proofs.KeyLemmas.{agree_back, agree_chain}
use Rattle.sqlite_rules.proofs.ListLemmas.{some_from}
use Rattle.sqlite_rules.proofs.RuleLemmas.{keeps_at}
use Rattle.store_rows.specs.Rows.{shown, has_key}
use Rattle.store_rows.specs.Numbered.{AreNumbered}
use Rattle.store_rows.proofs.ContentsLemmas.{meets_from}
use Rattle.store_rows.specs.Texts.{key_tests, SuitColumns, Columns, first_columns, unique_keys}
use Rattle.store_rows.proofs.Keys.{told}
use Rattle.store_rows.proofs.RowLemmas.{has_permuted, unmapped, whole, keyed, same_shown}

-- ---- values that are equal

-- SQL's `=` is true of two values that are not NULL and tie
equal_parts : (a b : Value) → equal Binary a b ≡ true
    → (is_null a ≡ false) × (is_null b ≡ false) × (value_cmp a b ≡ Equal)
unfolding binary
equal_parts a b h = by (is_null a || is_null b) refl
  where
    by : (null : Bool) → (is_null a || is_null b) ≡ null
        → (is_null a ≡ false) × (is_null b ≡ false) × (value_cmp a b ≡ Equal)
    by true e = absurd (true≢false (sym (rw e at h)))
    by false e = let nulls = or_parts _ _ e in
        (nulls.0, nulls.1, Equal_from_is_eq _ (sym (told (is_eq (value_cmp a b))) ∙ (rw e at h)))

equal_from : (a b : Value) → is_null a ≡ false → is_null b ≡ false → value_cmp a b ≡ Equal → equal Binary a b ≡ true
unfolding binary
equal_from a b p q same = rw (p, q, same)

-- integers that do not differ are equal
same_from_differ : (m n : ℤ) → differ (Int m) (Int n) ≡ false → value_cmp (Int m) (Int n) ≡ Equal
unfolding binary
same_from_differ m n h = by (value_cmp (Int m) (Int n)) refl
  where
    by : (o : Ordering) → value_cmp (Int m) (Int n) ≡ o → value_cmp (Int m) (Int n) ≡ Equal
    by Less e = absurd (true≢false (rw e at h))
    by Equal e = e
    by Greater e = absurd (true≢false (rw e at h))

text_tied : (a : Value) (t : List ℕ) → value_cmp a (Text t) ≡ Equal → a ≡ Text t
unfolding value_cmp
text_tied Null t tie = absurd (let e = tie in cc)
text_tied (Int n) t tie = absurd (let e = tie in cc)
text_tied (Real x) t tie = absurd (let e = tie in cc)
text_tied (Text s) t tie = ap Text (same_from s t (sym (is_eq-slice_cmp s t) ∙ ap is_eq (sym (value_cmp-Text s t)
    ∙ tie)))
text_tied (Blob b) t tie = absurd (let e = tie in cc)

blob_tied : (a : Value) (t : List ℕ) → value_cmp a (Blob t) ≡ Equal → a ≡ Blob t
unfolding value_cmp
blob_tied Null t tie = absurd (let e = tie in cc)
blob_tied (Int n) t tie = absurd (let e = tie in cc)
blob_tied (Real x) t tie = absurd (let e = tie in cc)
blob_tied (Text s) t tie = absurd (let e = tie in cc)
blob_tied (Blob b) t tie = ap Blob (same_from b t (sym (is_eq-slice_cmp b t) ∙ ap is_eq (sym (value_cmp-Blob b t)
    ∙ tie)))

-- a value that a column of texts keeps is itself what it equals
kept_same : (a k : Value) → cast kind.Text k ≡ k → equal Binary a k ≡ true → a ≡ k
kept_same a Null kept h = absurd (true≢false (equal_parts a Null h).1)
kept_same a (Int n) kept h = absurd (let e = kept in cc)
kept_same a (Real x) kept h = absurd (let e = kept in cc)
kept_same a (Text t) kept h = text_tied a t (equal_parts a (Text t) h).2
kept_same a (Blob t) kept h = blob_tied a t (equal_parts a (Blob t) h).2

-- ---- keys of texts

-- each is a value that a column of texts keeps
abbrev pub AreKept : Row → Type 0
AreKept = AllByRecursion (λ v. cast kind.Text v ≡ v)

pub kept_key : (columns : List Column) (row : Row) (width : ℕ)
    → map (λ c. c.kind) (take width columns) ≡ replicate width kind.Text → SuitColumns columns row
    → AreKept (take width row)
kept_key [] [] zero texts kept = tt
kept_key [] [] (suc n) texts kept = tt
kept_key [] (v ∷ row) width texts kept = absurd kept
kept_key (c ∷ columns) [] width texts kept = absurd kept
kept_key (c ∷ columns) (v ∷ row) zero texts kept = tt
kept_key (c ∷ columns) (v ∷ row) (suc n) texts kept =
    let first : c.kind ≡ kind.Text = cc in
    let more : map (λ (d : Column). d.kind) (take n columns) ≡ replicate n kind.Text = cc in
    (subst (λ k. cast k v ≡ v) first kept.0, kept_key columns row n more kept.1)

-- what has such a key has its very values in front
pub key_columns : (key r : Row) (at n : ℕ) → AreKept key → length key ≤ n
    → has_key key (map (column r) (range_with_len at n)) ≡ true → map (column r) (range_with_len at (length key)) ≡ key
key_columns [] r at n kept within h = refl
key_columns (k ∷ key) r at zero kept within h = absurd (omega (arith, within))
key_columns (k ∷ key) r at (suc n) kept within h =
    let parts = and_parts _ _ h in
    ap₂ ◌∷◌ (kept_same (column r at) k kept.0 parts.0)
    (key_columns key r (at + 1) n kept.1 (omega (arith, within)) parts.1)

-- ---- the one unique key of a table

-- whether some unique index of the table passes a test of its key
any_key : (table : Table) (p : Columns → Bool) (indexes : List Index)
    → list_any (λ i. guards i table && p (i.columns, i.order)) indexes
    ≡ list_any p (map (λ i. (i.columns, i.order)) (filter (λ i. guards i table) indexes))
any_key table p [] = refl
any_key table p (i ∷ indexes) = by (guards i table) refl (any_key table p indexes)
  where
    by : (b : Bool) → guards i table ≡ b → list_any (λ j. guards j table && p (j.columns, j.order)) indexes
        ≡ list_any p (map (λ j. (j.columns, j.order)) (filter (λ j. guards j table) indexes))
        → list_any (λ j. guards j table && p (j.columns, j.order)) (i ∷ indexes)
        ≡ list_any p (map (λ j. (j.columns, j.order)) (filter (λ j. guards j table) (i ∷ indexes)))
    by true e later = rw e (ap (λ b. p (i.columns, i.order) || b) later)
    by false e later = rw e later

-- columns agree with those of a new row as the tests of a key say
agree_tests : (params r : Row) (id : Value) (at n : ℕ)
    → agree plain (range_with_len (at + 1) n) r (range_with_len (at + 1) n) (id ∷ params)
    ≡ list_all (holds (params ∷ r ∷ [])) (key_tests at n)
unfolding first_key
agree_tests params r id at zero = refl
agree_tests params r id at (suc n) =
    let next : column (id ∷ params) (at + 1) ≡ column params at = ap (column (id ∷ params)) (add-one at) in
    ap₂ (λ v b. equal Binary (column r (at + 1)) v && b) next (agree_tests params r id (at + 1) n)

and_grouped : (a b c : Bool) → (a && b && c) ≡ (a && (b && c))
and_grouped true b c = refl
and_grouped false b c = refl

or_false : (b : Bool) → (b || false) ≡ b
or_false true = refl
or_false false = refl

not_rowid : (n : ℕ) → bytes_eq (range_with_len 1 n) (0 ∷ []) ≡ false
not_rowid zero = refl
not_rowid (suc n) = refl

none_passes : {X : Type 0} (p : X → Bool) (xs : List X) → list_all (λ x. not (p x)) xs ≡ true → list_any p xs ≡ false
none_passes p [] h = refl
none_passes p (x ∷ xs) h =
    let parts = and_parts _ _ h in
    or_from _ _ (not-true _ parts.0) (none_passes p xs parts.1)

module _ (schema : Schema) (table : Table) (width : ℕ) (unique : unique_keys schema table ≡ first_columns width ∷ [])
  where
    -- a test of the unique keys is a test of that one
    one_key : (p : Columns → Bool) → list_any (λ i. guards i table && p (i.columns, i.order)) schema.indexes
        ≡ p (first_columns width)
    one_key p = any_key table p schema.indexes ∙ ap (list_any p) unique ∙ or_false (p (first_columns width))

    -- Its columns agree with those of a new row where a row has the new one's key.
    first_agree : (params r : Row) (id : Value) → width ≤ length params → width ≤ length table.columns
        → agree plain (range_with_len 1 width) r (range_with_len 1 width) (id ∷ params)
        ≡ has_key (take width params) (shown table r)
    first_agree params r id narrow wide = agree_tests params r id 0 width
        ∙ meets_from params r 0 width (length table.columns) (omega (arith, narrow)) wide

    -- a row is in conflict with a new one where it has the new one's key
    pub conflict_is : (params r : Row) (id : Value) → width ≤ length params → width ≤ length table.columns
        → conflicts (Some (range_with_len 1 width)) schema.indexes table (id ∷ params) r
        ≡ has_key (take width params) (shown table r)
    conflict_is params r id narrow wide =
        let places = range_with_len 1 width in
        let new = id ∷ params in
        let at_rowid = agree plain (0 ∷ []) r (0 ∷ []) new in
        let by_index = list_any (shares (Some places) table new r) schema.indexes in
        ap (λ b. (b && at_rowid) || by_index) (not_rowid width)
        ∙ (λ k. list_any (λ i. and_grouped (guards i table) (bytes_eq places i.columns)
        (agree i.order i.columns r i.columns new) k) schema.indexes)
        ∙ one_key (λ key. bytes_eq places key.0 && agree key.1 key.0 r key.0 new)
        ∙ ap (λ b. b && agree plain places r places new) (same_itself places)
        ∙ first_agree params r id narrow wide

    -- two rows that have one key have one rowid
    pub same_rowids : (params : Row) (db : Trees) (a b : Row) → width ≤ length params → width ≤ length table.columns
        → Obeys schema db → Has schema.tables table → AreNumbered (map (whole (shown table)) (db table.tree))
        → Has (db table.tree) a → Has (db table.tree) b → has_key (take width params) (shown table a) ≡ true
        → has_key (take width params) (shown table b) ≡ true → value_cmp (rowid a) (rowid b) ≡ Equal
    same_rowids params db a b narrow wide obeys there numbered one two p q =
        let rows = db table.tree in
        let places = range_with_len 1 width in
        let agree_new = λ (r : Row) (h : has_key (take width params) (shown table r) ≡ true).
        first_agree params r Null narrow wide ∙ h in
        let agrees : agree plain places b places a ≡ true =
        agree_chain plain places places places b (Null ∷ params) a (agree_new b q)
        (agree_back plain places places a (Null ∷ params) (agree_new a p)) in
        let clash = λ (i : Index). clashes i.order i.columns rows a in
        let none : clashes plain places rows a ≡ false = sym (one_key (λ key. clashes key.1 key.0 rows a))
        ∙ none_passes (λ i. guards i table && clash i) schema.indexes
        (keeps_at Unique schema db table a (obeys.rules Unique) there one) in
        elim (cases_Bool (differ (rowid b) (rowid a))) [
          | inl apart ↦ absurd (true≢false (sym (some_from
              (λ other. agree plain places other places a && differ (rowid other) (rowid a)) rows b two
              (rw (agrees, apart) refl)) ∙ none))
          | inr same ↦
              let int_a = keyed (shown table) rows numbered a one in
              let int_b = keyed (shown table) rows numbered b two in
              subst₂ (λ v w. value_cmp v w ≡ Equal) (sym int_a) (sym int_b) (tied_back value_cmp_total _ _
              (same_from_differ _ _ (subst₂ (λ v w. differ v w ≡ false) int_b int_a same)))
        ]

    -- so the rows that have the key of one are those that have its rowid
    pub picked : (params : Row) (db : Trees) (a r : Row) → width ≤ length params → width ≤ length table.columns
        → Obeys schema db → Has schema.tables table → AreNumbered (map (whole (shown table)) (db table.tree))
        → Has (db table.tree) a → has_key (take width params) (shown table a) ≡ true → Has (db table.tree) r
        → equal Binary (rowid r) (rowid a) ≡ has_key (take width params) (shown table r)
    picked params db a r narrow wide obeys there numbered one p other =
        let rows = db table.tree in
        let whole_id = λ (x : Row) (h : Has rows x). ap is_null (keyed (shown table) rows numbered x h) in
        elim (cases_Bool (has_key (take width params) (shown table r))) [
          | inl has ↦ equal_from (rowid r) (rowid a) (whole_id r other) (whole_id a one)
              (same_rowids params db r a narrow wide obeys there numbered other one has p) ∙ sym has
          | inr none ↦ elim (cases_Bool (equal Binary (rowid r) (rowid a))) [
            | inl equals_it ↦
                let same = same_shown (shown table) rows numbered r a other one
                (equal_parts (rowid r) (rowid a) equals_it).2 in
                absurd (true≢false (sym p ∙ ap (has_key (take width params)) (sym same) ∙ none))
            | inr not_equal ↦ not_equal ∙ sym none
          ]
        ]

-- rows that all have one rowid are one row
pub only_one : (table : Table) (rows : List Row) (r : Row) → AreNumbered (map (whole (shown table)) rows) → Has rows r
    → ((a b : Row) → Has rows a → Has rows b → value_cmp (rowid a) (rowid b) ≡ Equal)
    → (x : Row) × (rows ≡ x ∷ [])
only_one table [] r numbered has same = absurd has
only_one table (x ∷ []) r numbered has same = (x, refl)
only_one table (x ∷ y ∷ more) r numbered has same = by numbered.sorted numbered.same numbered.rise
  where
    of : (sorted : List Row) → IsPermutation (map (whole (shown table)) (x ∷ y ∷ more)) sorted → (a : Row)
        → Has sorted a → (b : Row) × Has (x ∷ y ∷ more) b × (rowid a ≡ rowid b)
    of sorted perm a h =
        let it = unmapped (whole (shown table)) (x ∷ y ∷ more) a (has_permuted _ _ a (IsPermutation-sym _ _ perm) h) in
        (it.0, it.1, ap rowid it.2)

    by : (sorted : List Row) → IsPermutation (map (whole (shown table)) (x ∷ y ∷ more)) sorted → IsTable sorted
        → (z : Row) × (x ∷ y ∷ more ≡ z ∷ [])
    by [] perm rise = absurd (let long = length_permutation _ _ perm in omega (arith, long))
    by (a ∷ []) perm rise = absurd (let long = length_permutation _ _ perm in omega (arith, long))
    by (a ∷ b ∷ rest) perm rise =
        let first = of (a ∷ b ∷ rest) perm a (inl refl) in
        let second = of (a ∷ b ∷ rest) perm b (inr (inl refl)) in
        let tie : value_cmp (rowid a) (rowid b) ≡ Equal =
        subst₂ (λ v w. value_cmp v w ≡ Equal) (sym first.2) (sym second.2) (same first.0 second.0 first.1 second.1) in
        absurd (let less = rise.0.0 in cc)
