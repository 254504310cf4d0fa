-- A database tells its schema by its own list, so what is opened again is what was kept.
use Rattle.std.proofs.Common.{◌≡◌, ◌∙◌, ◌+◌, ℕ, List, [], ◌∷◌, true, false, Some, None, Ok, inl, inr, refl, sym, ap}
use Rattle.std.proofs.Common.{ap₂, subst, arith, length}
use Rattle.std.specs.Prelude.{IsTrue, filter, map, slice_get, pos}
use Rattle.std.specs.List.{AllByRecursion, AllZip}
use Rattle.std.proofs.lemmas.Option.{slice_get_cases}
use Rattle.sqlite.specs.Store.{Ghosts}
use Rattle.sqlite.specs.declared.types.Value.{Value}
use Rattle.sqlite.specs.declared.types.Value.TheVariants.{Null, Int, Real, Text, Blob}
use Rattle.sqlite.specs.Order.{Row, column}
use Rattle.sqlite.specs.Tree.{Trees, IsAscending}
use Rattle.sqlite.specs.Table.{Table}
use Rattle.sqlite.specs.Schema.{Schema as SqliteSchema}
use Rattle.sqlite.specs.Held.{Held, state}
use Rattle.sqlite.specs.State.{IsLive}
use Rattle.sqlite_schema.specs.declared.schema.Index.{Index}
use Rattle.sqlite_schema.specs.Names.{same_name}
use Rattle.sqlite_rules.specs.Lists.{Has}
use Rattle.sqlite_resolve.specs.Compile.{table_defined_by}
use Rattle.sqlite_catalog.specs.Listing.{IsSound, IsTableRow, IsIndexRow, IsViewRow, IsDefined, automatic}
use Rattle.sqlite_catalog.specs.Listing.{is_table_row, is_index_row, is_view_row}
use Rattle.sqlite_catalog.proofs.StepLemmas.{same_itself}
use Rattle.sqlite_trees.specs.Objects.{catalog_tree}
use Rattle.store_schema.specs.declared.schema.Schema.{Schema}
use Rattle.store_schema.specs.declared.schema.Schema.TheVariants.{First, Second, Third}
use Rattle.store_schema.specs.Earlier.{tables_under, schema_under, IsEarlierStateOf}
use Rattle.store_schema.specs.Inventory.{Inventory}
use Rattle.store_schema.specs.Stands.{StandsFor}
use Rattle.store_schema.specs.Tables.{index_of, schema_of, store_schema}
use Rattle.store.specs.View.{IsEarlierFound, MayLeave, Leaves, LeavesEarlier}
use Rattle.store.specs.Reopened.{FindsAgain}

-- two lists, each item of which goes with the item of a third at its place
one_zip : {X Y : Type 0} (R : X → Y → Type 0) → ((x : X) (a b : Y) → R x a → R x b → a ≡ b) → (xs : List X)
    (ys zs : List Y) → AllZip R xs ys → AllZip R xs zs → ys ≡ zs
one_zip R once [] [] [] p q = refl
one_zip R once [] [] (b ∷ zs) p q = absurd q
one_zip R once [] (a ∷ ys) zs p q = absurd p
one_zip R once (x ∷ xs) [] zs p q = absurd p
one_zip R once (x ∷ xs) (a ∷ ys) [] p q = absurd q
one_zip R once (x ∷ xs) (a ∷ ys) (b ∷ zs) p q =
    ap₂ (λ w ws. w ∷ ws) (once x a b p.0 q.0) (one_zip R once xs ys zs p.1 q.1)

same_tree : (a b : ℕ) → Int (pos (a + 1)) ≡ Int (pos (b + 1)) → a ≡ b
same_tree a b e = let n : a + 1 ≡ b + 1 = cc in omega (arith, n)

same_text : (a b : List ℕ) → Value.Text a ≡ Value.Text b → a ≡ b
same_text a b e = cc

-- a row is that of one table
one_table : (r : Row) (a b : Table) → IsTableRow r a → IsTableRow r b → a ≡ b
one_table r a b p q =
    let sql : p.sql ≡ q.sql = same_text p.sql q.sql (sym p.sql_is ∙ q.sql_is) in
    let made : Ok p.defined.0 ≡ Ok q.defined.0 = sym p.defined.1 ∙ (ap table_defined_by sql ∙ q.defined.1) in
    let same : p.defined.0 ≡ q.defined.0 = cc in
    let tree : a.tree ≡ b.tree = same_tree a.tree b.tree (sym p.described.id ∙ q.described.id) in
    p.defined.2 ∙ (ap₂ (λ (t : Table) n. record t { tree = n }) same tree ∙ sym q.defined.2)

all_has : {X : Type 0} (P : X → Type 0) (xs : List X) (x : X) → AllByRecursion P xs → Has xs x → P x
all_has P [] x all has = absurd has
all_has P (y ∷ ys) x all (inl is) = subst P (sym is) all.0
all_has P (y ∷ ys) x all (inr has) = all_has P ys x all.1 has

-- tables of one name are one
not_twice : (a b : Table) → same_name a.name b.name ≡ false → ¬ (a.name ≡ b.name)
not_twice a b far e =
    let same : same_name a.name b.name ≡ true = subst (λ n. same_name a.name n ≡ true) e (same_itself a.name) in
    absurd (let no : true ≡ false = sym same ∙ far in cc)

one_named : (ts : List Table) (a b : Table) → IsAscending (λ s t. same_name s.name t.name ≡ false) ts → Has ts a
    → Has ts b → a.name ≡ b.name → a ≡ b
one_named [] a b far p q e = absurd p
one_named (t ∷ ts) a b far (inl p) (inl q) e = p ∙ sym q
one_named (t ∷ ts) a b far (inl p) (inr q) e =
    absurd (not_twice a b (subst (λ (x : Table). same_name x.name b.name ≡ false) (sym p)
    (all_has (λ (x : Table). same_name t.name x.name ≡ false) ts b far.0 q)) e)
one_named (t ∷ ts) a b far (inr p) (inl q) e =
    absurd (not_twice b a (subst (λ (x : Table). same_name x.name a.name ≡ false) (sym q)
    (all_has (λ (x : Table). same_name t.name x.name ≡ false) ts a far.0 p)) (sym e))
one_named (t ∷ ts) a b far (inr p) (inr q) e = one_named ts a b far.1 p q e

-- each table of the store has one key
abbrev HasOneKey : Table → Type 0
HasOneKey t = length t.uniques ≡ 1

first_place : {X : Type 0} (xs : List X) (at : ℕ) (x : X) → length xs ≡ 1 → slice_get xs at ≡ Some x → at ≡ 0
first_place xs at x one found = elim (slice_get_cases xs at).1 [
  | inl there ↦ let low = there.1 in omega (arith, low, one)
  | inr past ↦ absurd (let no : None ≡ Some x = sym past.1 ∙ found in cc)
]

-- so a row is that of one index of it
index_by : (t : Table) (v : Value) (a b : Index) → HasOneKey t → a.tree ≡ b.tree → IsDefined t a v → IsDefined t b v
    → a ≡ b
index_by t Null a b one tree p q =
    let first : p.0 ≡ 0 = first_place t.uniques p.0 p.1 one p.2 in
    let second : q.0 ≡ 0 = first_place t.uniques q.0 q.1 one q.2 in
    let keys : Some p.1 ≡ Some q.1 = sym p.2 ∙ (ap (slice_get t.uniques) (first ∙ sym second) ∙ q.2) in
    let key : p.1 ≡ q.1 = cc in
    p.3 ∙ (ap (λ n. automatic t n p.1 a.tree) (first ∙ sym second) ∙ (ap₂ (λ k n. automatic t q.0 k n) key tree
    ∙ sym q.3))
index_by t (Int n) a b one tree p q = absurd p
index_by t (Real x) a b one tree p q = absurd p
index_by t (Text sql) a b one tree p q =
    let made : Ok p.0 ≡ Ok q.0 = sym p.1 ∙ q.1 in
    let same : p.0 ≡ q.0 = cc in
    p.2 ∙ (ap₂ (λ (i : Index) n. record i { tree = n; table = t.tree }) same tree ∙ sym q.2)
index_by t (Blob x) a b one tree p q = absurd p

one_index : (ts : List Table) → IsAscending (λ s t. same_name s.name t.name ≡ false) ts → AllByRecursion HasOneKey ts
    → (r : Row) (a b : Index) → IsIndexRow ts r a → IsIndexRow ts r b → a ≡ b
one_index ts named keys r a b p q =
    let name : p.table.name ≡ q.table.name = same_text p.table.name q.table.name
    (sym p.described.owner_is ∙ q.described.owner_is) in
    let table : p.table ≡ q.table = one_named ts p.table q.table named p.listed q.listed name in
    index_by q.table (column r 4) a b (all_has HasOneKey ts q.table keys q.listed)
    (same_tree a.tree b.tree (sym p.described.id ∙ q.described.id))
    (subst (λ (t : Table). IsDefined t a (column r 4)) table p.defined) q.defined

no_rows : {X Y : Type 0} (R : X → Y → Type 0) (xs : List X) (ys : List Y) → AllZip R xs [] → AllZip R xs ys → ys ≡ []
no_rows R [] [] p q = refl
no_rows R [] (y ∷ ys) p q = absurd q
no_rows R (x ∷ xs) ys p q = absurd p

-- what lists tables of one key each lists no other schema
lists_same : (tables : List Table) (schema : SqliteSchema) (db : Trees) → AllByRecursion HasOneKey tables
    → IsSound (schema_of tables) db → IsSound schema db → schema ≡ schema_of tables
lists_same tables schema db keys own other =
    let a = other.lists.listed in
    let b = own.lists.listed in
    let objects = db catalog_tree in
    let same : schema.tables ≡ tables = one_zip IsTableRow one_table (filter is_table_row objects) _ _ a.tables b.tables
    in
    let rows = subst (λ ts. AllZip (IsIndexRow ts) (filter is_index_row objects) schema.indexes) same a.indexes in
    let indexes : schema.indexes ≡ map index_of tables = one_zip (IsIndexRow tables) (one_index tables b.named keys)
    (filter is_index_row objects) _ _ rows b.indexes in
    let views : schema.views ≡ [] = no_rows IsViewRow (filter is_view_row objects) schema.views b.views a.views in
    ap (λ ts. record schema { tables = ts }) same
    ∙ (ap (λ is. record (schema_of tables) { indexes = is; views = schema.views }) indexes
    ∙ ap (λ vs. record (schema_of tables) { views = vs }) views)

keys_under : (r : Schema) → AllByRecursion HasOneKey (tables_under r)
keys_under First = (refl, (refl, (refl, (refl, (refl, (refl, (refl, (refl, (refl, tt)))))))))
keys_under Second = (refl, (refl, (refl, (refl, (refl, (refl, (refl, (refl, (refl, (refl, tt))))))))))
keys_under Third = (
  refl,
  (
    refl,
    (
      refl,
      (
        refl,
        (
          refl,
          (
            refl,
            (refl, (refl, (refl, (refl, (refl, (refl, (refl, tt))))))),
          ),
        ),
      ),
    ),
  ),
)

-- what lists the tables of a schema lists those of no other
pub lists_schema : (r : Schema) (schema : SqliteSchema) (db : Trees) → IsSound (schema_under r) db → IsSound schema db
    → schema ≡ schema_under r
lists_schema r schema db = lists_same (tables_under r) schema db (keys_under r)

lists_own : (schema : SqliteSchema) (db : Trees) → IsSound store_schema db → IsSound schema db → schema ≡ store_schema
lists_own = lists_schema Third

-- nor does what lists nothing
lists_none : (schema : SqliteSchema) (db : Trees) → IsSound (schema_of []) db → IsSound schema db
    → schema ≡ schema_of []
lists_none schema db = lists_same [] schema db tt

-- what is there of a state, under another list of the same trees
pub same_state : (i : Inventory) (schema other : SqliteSchema) (db : Trees) → IsSound schema db → IsSound other db
    → IsEarlierStateOf i (record { schema = schema; trees = db })
    → IsEarlierStateOf i (record { schema = other; trees = db })
same_state i schema other db sound again is =
    subst (λ (s : SqliteSchema). IsEarlierStateOf i (record { schema = s; trees = db })) (by is) is
  where
    -- the schema is that of these tables, and so is the other
    known : (tables : List Table) → AllByRecursion HasOneKey tables → schema ≡ schema_of tables → schema ≡ other
    known tables keys own = own ∙ sym (lists_same tables other db keys (subst (λ s. IsSound s db) own sound) again)

    by : IsEarlierStateOf i (record { schema = schema; trees = db }) → schema ≡ other
    by (inl (inl blank)) = known [] tt blank.0
    by (inl (inr stands)) = known (tables_under Third) (keys_under Third) stands.tables.schema_is
    by (inr (inl stands)) = known (tables_under First) (keys_under First) stands.tables.schema_is
    by (inr (inr stands)) = known (tables_under Second) (keys_under Second) stands.tables.schema_is

-- A connection that shows what a crash of the store may leave finds one of the inventories that a crash may leave. By
-- sqlite's `next_run` an open shows that, of files that hold what a crash left.
pub found_left : {S T : Type 0} (g : Ghosts S) (h : Ghosts T) (old : Held S) (new : Held T)
    (Among : Inventory → Type 0) → Leaves g old Among → IsLive (state h new)
    → MayLeave g old (state h new).committed.trees → IsTrue (state h new).is_open
    → (c : Inventory) × Among c × StandsFor c (state h new).committed
found_left g h old new Among leaves live left is_open =
    let db = (state h new).committed.trees in
    let it = leaves db left in
    let own : (state h new).committed.schema ≡ store_schema =
    lists_own (state h new).committed.schema db it.2.tables.sound (live is_open).1 in
    (it.0, it.1, subst (λ (s : SqliteSchema). StandsFor it.0 (record { schema = s; trees = db })) (sym own) it.2)

-- A connection that shows what the store last committed finds its inventory.
pub found_again : {S T : Type 0} (g : Ghosts S) (h : Ghosts T) → FindsAgain g h
found_again g h old new i clean tables live same late is_open =
    let was = tables clean in
    let db = (state g old).committed.trees in
    let schema = (state h new).committed.schema in
    let kept : StandsFor i (record { schema = store_schema; trees = db }) =
    subst (λ (s : SqliteSchema). StandsFor i (record { schema = s; trees = db })) was.1.tables.schema_is was.1 in
    let own : schema ≡ store_schema = lists_own schema db kept.tables.sound
    (subst (IsSound schema) same (live is_open).1) in
    inr (subst (λ trees. StandsFor i (record { schema = schema; trees = trees })) (sym same)
    (subst (λ (s : SqliteSchema). StandsFor i (record { schema = s; trees = db })) (sym own) kept))

-- The same behind a migration that failed: it finds what that found.
pub found_earlier : {S T : Type 0} (g : Ghosts S) (h : Ghosts T) (old : Held S) (new : Held T) (i : Inventory)
    → LeavesEarlier g old i → IsLive (state h new) → MayLeave g old (state h new).committed.trees
    → IsEarlierFound h new i
found_earlier g h old new i leaves live left clean is_open =
    let db = (state h new).committed.trees in
    let it = leaves db left in
    same_state i it.0 (state h new).committed.schema db it.1 (live is_open).1 it.2
