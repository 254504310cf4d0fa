-- What one statement makes of what the tables hold.
use Rattle.std.proofs.Common.{◌≡◌, ℕ, zero, suc, ◌+◌, ◌*◌, ◌/◌, ◌≤◌, ◌==◌, length, drop, take, List, [], ◌∷◌, ◌++◌, map}
use Rattle.std.proofs.Common.{filter, Bool, true, false, Ok, IsPermutation, arith, refl, sym, ap, ap₂, subst, subst₂}
use Rattle.std.proofs.Common.{◌∙◌, append-nil}
use Rattle.std.specs.List.{AllByRecursion, range_with_len, list_all, flat_map, filter_map}
use Rattle.std.proofs.lemmas.List.{take_all, take_at, drop_at, length-append, append_assoc}
use Rattle.std.proofs.lemmas.List.FromFn.{length-map-range_with_len}
use Rattle.std.proofs.Math.Nat.{mul-div_cancel}
use Rattle.sqlite.specs.declared.types.Value.{Value}
use Rattle.sqlite.specs.declared.types.Value.TheVariants.{Null, Int}
use Rattle.sqlite.specs.Ops.{unary}
use Rattle.sqlite.specs.Cast.{cast, cast_all, cast_row}
use Rattle.sqlite.specs.Kind.TheVariants.{Integer}
use Rattle.sqlite.specs.Order.{Row}
use Rattle.sqlite.specs.Tree.{Trees, rowid, put_row}
use Rattle.sqlite.specs.Schema.{Schema}
use Rattle.sqlite.specs.Table.{Table}
use Rattle.sqlite.specs.Term.{lit, col, eval, eval_all, holds}
use Rattle.sqlite_schema.specs.declared.schema.Column.{Column}
use Rattle.sqlite_schema.specs.declared.schema.Keys.TheVariants.{Enforced}
use Rattle.sqlite.specs.Edit.{edit_of, with_rowid, next_rowid, taken_by, are_fresh, have_rowids, put_all, edited}
use Rattle.sqlite.specs.Edit.{without_all, numbered}
use Rattle.sqlite.specs.Rowids.TheVariants.{Chosen, Given}
use Rattle.sqlite.specs.Effect.{value_rows}
use Rattle.sqlite.specs.Listing.{understood}
use Rattle.sqlite.specs.Command.TheVariants.{Insert, Update, Delete}
use Rattle.sqlite.specs.Source.TheVariants.{Values}
use Rattle.sqlite.specs.State.{State, Executes}
use Rattle.sqlite.proofs.Callers.{statement_of, runs_as, one_step}
use Rattle.sqlite_trees.proofs.ListLemmas.{map-map, filter-map, IsPermutation-filter}
use Rattle.sqlite_rules.specs.Action.{works, work_by, deed_for, pairs}
use Rattle.sqlite_schema.specs.Rules.{parent_key}
use Rattle.sqlite_rules.proofs.ActionLemmas.{no_works}
use Rattle.sqlite_rules.proofs.PlaceLemmas.{given}
use Rattle.sqlite_rules.specs.Calls.{ids_of}
use Rattle.sqlite_schema.specs.declared.program.Program.{Program}
use Rattle.store_rows.specs.Rows.{shown, has_key, without, with_row, in_place, AreRows, Contents, HasContents, HaveNone}
use Rattle.store_rows.specs.Rows.{in_table, with_rows}
use Rattle.store_rows.specs.Calls.{columns_of}
use Rattle.store_rows.specs.Texts.{key_tests, scan_by, SuitColumns, PutsIn, PutsInPlace, DeletesByKey}
use Rattle.store_rows.specs.Texts.{TakesOutParent, IsCascade, works_of_update, given_rows}
use Rattle.store_rows.proofs.RowLemmas.{filter_same, ids_shown}
use Rattle.store_rows.proofs.Statements.{inserts, updates, deletes, scans}
use Rattle.store_rows.proofs.Parents.{step_then_idle, cascades_from, taken_meets, idle_cascade}
use Rattle.std.proofs.lemmas.Bool.{and_parts, ne_eqb, not-true}
use Rattle.std.proofs.lemmas.List.Sorted.{IsPermutation-refl, IsPermutation-sym, IsPermutation-trans}
use Rattle.std.proofs.lemmas.List.Sorted.{IsPermutation-cons, IsPermutation-map, IsPermutation-append_left}
use Rattle.std.proofs.lemmas.List.Sorted.{IsPermutation-middle}
use Rattle.terms.proofs.Booleans.{cond_same}
use Rattle.store_rows.proofs.ContentsLemmas.{columns_from, columns_within, meets_from, puts, takes, each_table}
use Rattle.store_rows.proofs.ContentsLemmas.{held_at}

-- ---- values that their columns keep

pub cast_null : cast Integer Null ≡ Null
unfolding unary
cast_null = cond_same _ Null

pub kept_length : (columns : List Column) (row : Row) → SuitColumns columns row → length columns ≡ length row
kept_length [] [] h = refl
kept_length [] (v ∷ row) h = absurd h
kept_length (c ∷ columns) [] h = absurd h
kept_length (c ∷ columns) (v ∷ row) h = ap suc (kept_length columns row h.1)

pub kept_cast : (columns : List Column) (row : Row) → SuitColumns columns row → cast_all columns row ≡ row
kept_cast [] [] h = refl
kept_cast [] (v ∷ row) h = absurd h
kept_cast (c ∷ columns) [] h = absurd h
kept_cast (c ∷ columns) (v ∷ row) h = ap₂ ◌∷◌ h.0 (kept_cast columns row h.1)

-- what a row with a rowid shows
pub shown_of : (table : Table) (id : Value) (row : Row) → length table.columns ≡ length row
    → shown table (id ∷ row) ≡ row
shown_of table id row e = columns_from (id ∷ row) 1 (length table.columns) (omega (arith, e))

-- ---- INSERT

pub puts_all : (table : Table) (news held rows : List Row) → are_fresh rows news ≡ true → have_rowids news ≡ true
    → AreRows table held rows → AreRows table (map (shown table) news ++ held) (put_all rows news)
puts_all table [] held rows fresh keyed h = h
puts_all table (n ∷ news) held rows fresh keyed h =
    let free = and_parts _ _ fresh in
    let ids = and_parts _ _ keyed in
    let one = puts table held rows n (not-true _ free.0) ids.0 h in
    let all = puts_all table news (shown table n ∷ held) (put_row n rows) free.1 ids.1 one in
    record {
      same = IsPermutation-trans _ _ _ (IsPermutation-sym _ _
          (IsPermutation-middle (map (shown table) news) (shown table n) held)) all.same;
      numbered = all.numbered;
    }

length_terms : (from n : ℕ) → length (lit Null ∷ map (col 0) (range_with_len from n)) ≡ n + 1
length_terms from n = omega (arith, length-map-range_with_len (col 0) from n)

given_long : (width from n : ℕ) → length (given_rows width from n) ≡ n * (width + 1)
given_long width from zero = omega arith
given_long width from (suc n) =
    let terms = lit Null ∷ map (col 0) (range_with_len from width) in
    length-append terms (given_rows width (from + width) n)
    ∙ ap₂ ◌+◌ (length_terms from width) (given_long width (from + width) n) ∙ omega arith

-- rows that are behind other parameters, before their rowids are chosen
rows_behind : (front : Row) (width from : ℕ) (rows : List Row) → from ≡ length front
    → AllByRecursion (λ (r : Row). width ≡ length r) rows
    → value_rows (front ++ columns_of rows) (width + 1) (length rows) (given_rows width from (length rows))
    ≡ map (λ r. Null ∷ r) rows
rows_behind front width from [] behind wide = refl
rows_behind front width from (r ∷ rows) behind wide =
    let params = front ++ (r ++ columns_of rows) in
    let terms = lit Null ∷ map (col 0) (range_with_len from width) in
    let more = given_rows width (from + width) (length rows) in
    let long : length terms ≡ width + 1 = length_terms from width in
    let first : eval_all (take (width + 1) (terms ++ more)) (params ∷ []) ≡ Null ∷ r =
    ap (λ ts. eval_all ts (params ∷ [])) (take_at terms more (width + 1) long)
    ∙ ap (λ cells. Null ∷ cells) (map-map (λ t. eval t (params ∷ [])) (col 0) (range_with_len from width)
    ∙ columns_within front r (columns_of rows) from width behind wide.0) in
    let later = rows_behind (front ++ r) width (from + width) rows
    (omega (arith, length-append front r, behind, wide.0)) wide.1 in
    ap₂ ◌∷◌ first (ap₂ (λ ps ts. value_rows ps (width + 1) (length rows) ts)
    (sym (append_assoc front r (columns_of rows))) (drop_at terms more (width + 1) long) ∙ later)

-- the parameters as rows
source_rows : (width : ℕ) (rows : List Row) → AllByRecursion (λ (r : Row). width ≡ length r) rows
    → value_rows (columns_of rows) (width + 1) (length (given_rows width 0 (length rows)) / (width + 1))
    (given_rows width 0 (length rows)) ≡ map (λ r. Null ∷ r) rows
source_rows width rows wide =
    let terms = given_rows width 0 (length rows) in
    let count : length terms / (width + 1) ≡ length rows =
    ap (λ k. k / (width + 1)) (given_long width 0 (length rows)) ∙ mul-div_cancel (length rows) (omega arith) in
    ap (λ n. value_rows (columns_of rows) (width + 1) n terms) count ∙ rows_behind [] width 0 rows refl wide

-- the parameters as one row
pub source_row : (row : Row) (width : ℕ) → width ≡ length row
    → value_rows row (width + 1) (length (lit Null ∷ map (col 0) (range_with_len 0 width)) / (width + 1))
    (lit Null ∷ map (col 0) (range_with_len 0 width)) ≡ (Null ∷ row) ∷ []
source_row row width e =
    subst₂ (λ params terms. value_rows params (width + 1) (length terms / (width + 1)) terms ≡ (Null ∷ row) ∷ [])
    (append-nil row) (append-nil (lit Null ∷ map (col 0) (range_with_len 0 width)))
    (source_rows width (row ∷ []) (e, tt))

all_wide : (columns : List Column) (rows : List Row) → AllByRecursion (SuitColumns columns) rows
    → AllByRecursion (λ (r : Row). length columns ≡ length r) rows
all_wide columns [] kept = tt
all_wide columns (r ∷ rows) kept = (kept_length columns r kept.0, all_wide columns rows kept.1)

-- what the new rows show, whatever rowids are chosen for them
news_shown : (table : Table) (rows news : List Row) → AllByRecursion (SuitColumns table.columns) news
    → map (shown table) (numbered Chosen rows (map (λ s. cast_row table (drop 0 s)) (map (λ r. Null ∷ r) news))) ≡ news
news_shown table rows [] kept = refl
news_shown table rows (r ∷ news) kept =
    let new = with_rowid Chosen rows (cast_row table (Null ∷ r)) in
    let is : new ≡ Int (next_rowid rows) ∷ r =
    ap₂ (λ id cells. with_rowid Chosen rows (id ∷ cells)) cast_null (kept_cast table.columns r kept.0) in
    ap₂ ◌∷◌ (ap (shown table) is ∙ shown_of table _ r (kept_length table.columns r kept.0))
    (news_shown table (put_row new rows) news kept.1)

pub put_rows_in : (schema : Schema) (at : ℕ) (table : Table) (sql : List ℕ) (rows : List Row) (old new : State)
    (count : ℕ) (contents : Contents) → PutsIn schema at table (length rows) sql
    → AllByRecursion (SuitColumns table.columns) rows → HasContents schema contents old.now
    → Executes sql (columns_of rows) old new (Ok count)
    → HasContents schema (in_table table (with_rows rows) contents) new.now
put_rows_in schema at table sql rows old new count contents text kept was h =
    let width = length table.columns in
    let terms = given_rows width 0 (length rows) in
    let params = columns_of rows in
    let w = runs_as sql params old new schema was.schema_is (Insert at (Values terms (width + 1))) text.command
    text.plain count h in
    let it = inserts old new schema was.schema_is at table text.there.found (statement_of sql (understood schema sql))
    params count terms (width + 1) text.uncounted text.timeless w in
    let db = old.now.trees in
    let edit = edit_of db table [] Chosen 0 it.0 in
    let done = one_step schema Enforced db new.now.trees edit (no_works schema Enforced 0 table.tree edit.news) it.3 in
    let seen : map (shown table) edit.news ≡ rows =
    ap (λ all. map (shown table) (edit_of db table [] Chosen 0 all).news)
    (it.1 ∙ source_rows width rows (all_wide table.columns rows kept))
    ∙ news_shown table (db table.tree) rows kept in
    let held = contents table.tree in
    let all = subst (λ news. AreRows table (news ++ held) (edited db edit)) seen
    (puts_all table edit.news held (db table.tree) done.fresh done.keyed
    (held_at schema at table contents db text.there was.tables)) in
    record {
      schema_is = it.2;
      sound = w.sound;
      tables = each_table table (with_rows rows) contents db new.now.trees (rw done.rows all) schema.tables
          text.there.alone was.tables done.tables;
    }

-- one row
pub put_in : (schema : Schema) (at : ℕ) (table : Table) (sql : List ℕ) (row : Row) (old new : State) (count : ℕ)
    (contents : Contents) → PutsIn schema at table 1 sql → SuitColumns table.columns row
    → HasContents schema contents old.now → Executes sql row old new (Ok count)
    → HasContents schema (in_table table (with_row row) contents) new.now
put_in schema at table sql row old new count contents text kept was h =
    put_rows_in schema at table sql (row ∷ []) old new count contents text (kept, tt) was
    (subst (λ params. Executes sql params old new (Ok count)) (sym (append-nil row)) h)

-- ---- DELETE

-- the rows of a table that have a key, as the tests of a statement find them
pub found_by_key : (table : Table) (width : ℕ) (params : Row) → width ≤ length params → width ≤ length table.columns
    → (rows : List Row)
    → filter (λ r. list_all (holds (params ∷ r ∷ [])) (key_tests 0 width)) rows ≡ filter
    (λ r. has_key (take width params) (shown table r)) rows
found_by_key table width params e le rows = filter_same _ _ rows
    (λ r h. meets_from params r 0 width (length table.columns) (omega (arith, e)) le)

pub take_out : (schema : Schema) (at : ℕ) (table : Table) (width : ℕ) (sql : List ℕ) (key : Row) (old new : State)
    (count : ℕ) (contents : Contents) → DeletesByKey schema at table width sql → width ≡ length key
    → HasContents schema contents old.now → Executes sql key old new (Ok count)
    → HasContents schema (in_table table (without key) contents) new.now
take_out schema at table width sql key old new count contents text e was h =
    let q : Program = record { lets = []; body = scan_by table.tree (key_tests 0 width) (col 1 0 ∷ []) [] } in
    let w = runs_as sql key old new schema was.schema_is (Delete at q) text.command text.plain count h in
    let it = deletes old new schema was.schema_is at table text.there.found (statement_of sql (understood schema sql))
    key count q w in
    let db = old.now.trees in
    let rows = db table.tree in
    let done = one_step schema Enforced db new.now.trees (edit_of db table (ids_of it.0) Given 0 []) (text.free _) it.3
    in
    let found = ids_shown (λ r. rowid r ∷ []) (λ r. refl) _ it.0
    (subst (λ l. IsPermutation (map (λ r. rowid r ∷ []) l) it.0)
    (found_by_key table width key (omega (arith, e)) text.narrow rows
    ∙ ap (λ k. filter (λ r. has_key k (shown table r)) rows) (take_all width key (omega (arith, e))))
    (scans table.tree (key_tests 0 width) (col 1 0 ∷ []) [] db key it.0 it.1.answer)) in
    let left = takes table (contents table.tree) rows (has_key key) (ids_of it.0) found
    (held_at schema at table contents db text.there was.tables) in
    record {
      schema_is = it.2;
      sound = w.sound;
      tables = each_table table (without key) contents db new.now.trees (rw done.rows left)
          schema.tables text.there.alone was.tables done.tables;
    }

-- ---- DELETE of a parent

take_out_row : (schema : Schema) (at : ℕ) (table : Table) (children : List Table) (sql : List ℕ) (k : Value)
    (old new : State) (count : ℕ) (contents : Contents) → TakesOutParent schema at table children sql
    → HaveNone children (k ∷ []) contents → HasContents schema contents old.now
    → Executes sql (k ∷ []) old new (Ok count) → HasContents schema (in_table table (without (k ∷ [])) contents)
    new.now
take_out_row schema at table children sql k old new count contents text none was h =
    let key = k ∷ [] in
    let q : Program = record { lets = []; body = scan_by table.tree (key_tests 0 1) (col 1 0 ∷ []) [] } in
    let w = runs_as sql key old new schema was.schema_is (Delete at q) text.command text.plain count h in
    let it = deletes old new schema was.schema_is at table text.there.found (statement_of sql (understood schema sql))
    key count q w in
    let db = old.now.trees in
    let rows = db table.tree in
    let holds_now = held_at schema at table contents db text.there was.tables in
    let found = ids_shown (λ r. rowid r ∷ []) (λ r. refl) _ it.0
    (subst (λ l. IsPermutation (map (λ r. rowid r ∷ []) l) it.0)
    (found_by_key table 1 key (omega arith) text.narrow rows)
    (scans table.tree (key_tests 0 1) (col 1 0 ∷ []) [] db key it.0 it.1.answer)) in
    let edit = edit_of db table (ids_of it.0) Given 0 [] in
    let done = step_then_idle schema Enforced db new.now.trees edit (λ mid applied work has.
    idle_cascade schema table children k contents db mid (taken_by db edit) was.tables applied.tables
    text.children_there none text.narrow (taken_meets table _ rows (has_key key) (ids_of it.0) holds_now found) work
    (cascades_from schema Enforced 0 table.tree (taken_by db edit) [] (IsCascade children (taken_by db edit))
    (text.acts (taken_by db edit)) work has)) it.3 in
    let left = takes table (contents table.tree) rows (has_key key) (ids_of it.0) found holds_now in
    record {
      schema_is = it.2;
      sound = w.sound;
      tables = each_table table (without key) contents db new.now.trees (rw done.rows left)
          schema.tables text.there.alone was.tables done.tables;
    }

pub take_out_parent : (schema : Schema) (at : ℕ) (table : Table) (children : List Table) (sql : List ℕ) (key : Row)
    (old new : State) (count : ℕ) (contents : Contents) → length key ≡ 1 → TakesOutParent schema at table children sql
    → HaveNone children key contents → HasContents schema contents old.now → Executes sql key old new (Ok count)
    → HasContents schema (in_table table (without key) contents) new.now
take_out_parent schema at table children sql [] old new count contents one text none was h = absurd (omega arith)
take_out_parent schema at table children sql (k ∷ []) old new count contents one text none was h =
    take_out_row schema at table children sql k old new count contents text none was h
take_out_parent schema at table children sql (k ∷ l ∷ key) old new count contents one text none was h =
    absurd (omega arith)

-- ---- UPDATE

-- the rows that have the key, each become this one, and the others
in_place_parts : (key row : Row) (rows : List Row) → IsPermutation (in_place key row rows)
    (map (λ r. row) (filter (has_key key) rows) ++ without key rows)
in_place_parts key row [] = IsPermutation-refl []
in_place_parts key row (r ∷ rows) = go (has_key key r) refl (in_place_parts key row rows)
  where
    go : (b : Bool) → has_key key r ≡ b → IsPermutation (in_place key row rows)
        (map (λ r. row) (filter (has_key key) rows) ++ without key rows)
        → IsPermutation (in_place key row (r ∷ rows)) (map (λ r. row) (filter (has_key key) (r ∷ rows))
        ++ without key (r ∷ rows))
    go true e later = rw e (IsPermutation-cons row _ _ later)
    go false e later =
        rw e (IsPermutation-trans _ _ _ (IsPermutation-cons r _ _ later)
        (IsPermutation-sym _ _ (IsPermutation-middle (map (λ r. row) (filter (has_key key) rows)) r
        (without key rows))))

updates_free : (schema : Schema) (tree : ℕ) (olds : List Row) (new : Row) (news : List Row)
    → works_of_update schema tree olds (new ∷ news) ≡ [] → works schema Enforced 0 tree olds (new ∷ news) ≡ []
updates_free schema tree olds new news free =
    let some : (suc (length news) == 0) ≡ false = ne_eqb (suc (length news)) 0 (omega arith) in
    subst (λ b. flat_map (λ child. filter_map (λ ref. work_by 0 tree (pairs olds (new ∷ news)) child ref
    (deed_for Enforced b ref) (parent_key schema.tables ref)) child.references) schema.tables ≡ []) (sym some) free

pub free_of : (schema : Schema) (table : Table) (db : Trees) → ((olds news : List Row)
    → works_of_update schema table.tree olds news ≡ []) → (found : List Row)
    → works schema Enforced 0 table.tree (taken_by db (edit_of db table (ids_of found) Given 1 found))
    (edit_of db table (ids_of found) Given 1 found).news ≡ []
free_of schema table db free [] = no_works schema Enforced 0 table.tree []
free_of schema table db free (x ∷ found) =
    let edit = edit_of db table (ids_of (x ∷ found)) Given 1 (x ∷ found) in
    let one = cast_row table (drop 1 x) in
    let more = map (λ s. cast_row table (drop 1 s)) found in
    subst (λ news. works schema Enforced 0 table.tree (taken_by db edit) news ≡ [])
    (sym (given (without_all (db table.tree) (ids_of (x ∷ found))) (one ∷ more)))
    (updates_free schema table.tree (taken_by db edit) one more (free (taken_by db edit) (one ∷ more)))

pub put_in_place : (schema : Schema) (at : ℕ) (table : Table) (width : ℕ) (sql : List ℕ) (row : Row) (old new : State)
    (count : ℕ) (contents : Contents) → PutsInPlace schema at table width sql → SuitColumns table.columns row
    → HasContents schema contents old.now → Executes sql row old new (Ok count)
    → HasContents schema (in_table table (in_place (take width row) row) contents) new.now
put_in_place schema at table width sql row old new count contents text kept was h =
    let key = take width row in
    let n = length table.columns in
    let long : n ≡ length row = kept_length table.columns row kept in
    let project = col 1 0 ∷ col 1 0 ∷ map (col 0) (range_with_len 0 n) in
    let q : Program = record { lets = []; body = scan_by table.tree (key_tests 0 width) project [] } in
    let w = runs_as sql row old new schema was.schema_is (Update at q) text.command text.plain count h in
    let it = updates old new schema was.schema_is at table text.there.found (statement_of sql (understood schema sql))
    row count q w in
    let db = old.now.trees in
    let rows = db table.tree in
    let held = contents table.tree in
    let holds_now = held_at schema at table contents db text.there was.tables in
    let some = filter (λ r. has_key key (shown table r)) rows in
    let cells : (r : Row) → eval_all project (row ∷ r ∷ []) ≡ rowid r ∷ rowid r ∷ row = λ r.
    ap (λ values. rowid r ∷ rowid r ∷ values) (map-map (λ t. eval t (row ∷ r ∷ [])) (col 0) (range_with_len 0 n)
    ∙ columns_from row 0 n (omega (arith, long))) in
    let scan = scans table.tree (key_tests 0 width) project [] db row it.0 it.1.answer in
    let found : IsPermutation (map (λ r. rowid r ∷ rowid r ∷ row) some) it.0 =
    subst (λ l. IsPermutation (map (λ r. rowid r ∷ rowid r ∷ row) l) it.0)
    (found_by_key table width row (omega (arith, long, text.narrow)) text.narrow rows)
    (subst (λ l. IsPermutation l it.0) (λ i. map (λ r. cells r i)
    (filter (λ r. list_all (holds (row ∷ r ∷ [])) (key_tests 0 width)) rows)) scan) in
    let ids = ids_shown (λ r. rowid r ∷ rowid r ∷ row) (λ r. refl) some it.0 found in
    let edit = edit_of db table (ids_of it.0) Given 1 it.0 in
    let done = one_step schema Enforced db new.now.trees edit (free_of schema table db text.free it.0) it.3 in
    let left = takes table held rows (has_key key) (ids_of it.0) ids holds_now in
    let news : edit.news ≡ map (λ s. cast_row table (drop 1 s)) it.0 =
    given (without_all rows (ids_of it.0)) (map (λ s. cast_row table (drop 1 s)) it.0) in
    let seen : (r : Row) → shown table (cast_row table (rowid r ∷ row)) ≡ row =
    λ r. ap (λ values. shown table (cast Integer (rowid r) ∷ values)) (kept_cast table.columns row kept)
    ∙ shown_of table _ row long in
    let new_rows : IsPermutation (map (λ r. row) some) (map (shown table) edit.news) =
    subst (IsPermutation (map (λ r. row) some)) (sym (ap (map (shown table)) news
    ∙ map-map (shown table) (λ s. cast_row table (drop 1 s)) it.0))
    (subst (λ l. IsPermutation l (map (λ s. shown table (cast_row table (drop 1 s))) it.0))
    (map-map (λ s. shown table (cast_row table (drop 1 s))) (λ r. rowid r ∷ rowid r ∷ row) some
    ∙ (λ i. map (λ r. seen r i) some))
    (IsPermutation-map (λ s. shown table (cast_row table (drop 1 s))) _ _ found)) in
    let were : IsPermutation (map (λ r. row) (filter (has_key key) held)) (map (λ r. row) some) =
    subst (IsPermutation (map (λ r. row) (filter (has_key key) held)))
    (ap (map (λ r. row)) (filter-map (has_key key) (shown table) rows) ∙ map-map (λ r. row) (shown table) some)
    (IsPermutation-map (λ r. row) _ _ (IsPermutation-filter (has_key key) _ _ holds_now.same)) in
    let all = puts_all table edit.news (without key held) (without_all rows (ids_of it.0)) done.fresh done.keyed left in
    let same = IsPermutation-trans _ _ _ (in_place_parts key row held)
    (IsPermutation-trans _ _ _ (IsPermutation-append_left (without key held) _ _
    (IsPermutation-trans _ _ _ were new_rows)) all.same) in
    let now : AreRows table (in_place key row held) (edited db edit) = record { same = same; numbered = all.numbered }
    in
    record {
      schema_is = it.2;
      sound = w.sound;
      tables = each_table table (in_place key row) contents db new.now.trees (rw done.rows now)
          schema.tables text.there.alone was.tables done.tables;
    }
