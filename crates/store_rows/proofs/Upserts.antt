-- What an INSERT that updates the row of its key makes of what the tables hold.
use Rattle.std.proofs.Common.{◌≡◌, ◌≢◌, ℕ, suc, ◌+◌, ◌-◌, ◌≤◌, ◌==◌, length, drop, take, List, [], ◌∷◌, ◌++◌, map}
use Rattle.std.proofs.Common.{filter, Bool, Option, true, false, not, Ok, Some, inl, inr, IsPermutation, arith}
use Rattle.std.proofs.Common.{if◌then◌else◌, add-one, refl, sym, ap, ap₂, subst, ◌∙◌}
use Rattle.std.specs.List.{AllByRecursion, list_all, range_with_len}
use Rattle.std.proofs.lemmas.Bool.{cases_Bool}
use Rattle.std.proofs.lemmas.List.{map-append, take-append-drop, length-append, length-take, get_or-append-add}
use Rattle.std.proofs.Math.Seq.{drop-append-add}
use Rattle.sqlite.specs.declared.types.Value.{Value}
use Rattle.sqlite.specs.declared.types.Value.TheVariants.{Null, Int}
use Rattle.sqlite.specs.Cast.{cast, cast_row}
use Rattle.sqlite.specs.Kind.TheVariants.{Integer}
use Rattle.sqlite.specs.Collation.TheVariants.{Binary}
use Rattle.sqlite.specs.Order.{Row, column}
use Rattle.sqlite.specs.Tree.{Trees, rowid, put_row}
use Rattle.store_rows.proofs.Keys.{and_true}
use Rattle.sqlite.specs.Schema.{Schema}
use Rattle.sqlite.specs.Table.{Table}
use Rattle.sqlite.specs.Term.{Term, lit, col, op2, eval, eval_all, holds}
use Rattle.sqlite_schema.specs.declared.schema.Keys.TheVariants.{Enforced}
use Rattle.sqlite_schema.specs.declared.command.Conflict.TheVariants.{Abort}
use Rattle.sqlite_schema.specs.Rules.{Obeys, equal}
use Rattle.sqlite_sql.specs.declared.ops.CompareOp.TheVariants.{Eq}
use Rattle.sqlite_sql.specs.declared.ops.BinaryOp.TheVariants.{Compare}
use Rattle.sqlite.specs.Edit.{id_in, edit_of, edited, with_rowid, next_rowid, without_all}
use Rattle.sqlite.specs.Rowids.TheVariants.{Chosen, Given}
use Rattle.sqlite.specs.Effect.{Database, Answers}
use Rattle.sqlite.specs.Rows.{shown as shows_row, Task, Written, Clears, Meets, Puts, Upserts}
use Rattle.sqlite_schema.specs.Names.{is_key, place_of}
use Rattle.sqlite_rules.specs.Action as action
use Rattle.sqlite_rules.specs.Calls.{ids_of}
use Rattle.sqlite_rules.specs.Keys.{AreConflicts, conflicts}
use Rattle.sqlite_rules.specs.Lists.{Has}
use Rattle.sqlite_rules.proofs.ListLemmas.{has_filtered, has_kept}
use Rattle.sqlite_rules.proofs.ActionLemmas.{no_works}
use Rattle.sqlite_rules.proofs.PlaceLemmas.{given}
use Rattle.sqlite_trees.proofs.ListLemmas.{map-map}
use Rattle.sqlite.proofs.Callers.{one_step, one_permutation, runs_as, statement_of}
use Rattle.sqlite.specs.State.{State, Executes}
use Rattle.sqlite.specs.Listing.{understood}
use Rattle.sqlite.specs.Source.TheVariants.{Values}
use Rattle.sqlite.specs.Command.TheVariants.{InsertOr}
use Rattle.store_rows.specs.Rows.{shown, has_key, without, with_row, with_put, in_table, AreRows, Contents, HasContents}
use Rattle.store_rows.specs.Texts.{SuitColumns, PutsByKey, excluded, by_key}
use Rattle.store_rows.proofs.ContentsLemmas.{columns_from, puts, takes, each_table, held_at}
use Rattle.store_rows.proofs.RowLemmas.{has_permuted, unmapped, filter_same, filter_all, filter_numbered}
use Rattle.store_rows.proofs.RowLemmas.{same_rows}
use Rattle.store_rows.proofs.Statements.{went, same_value, scans, task_of, tries}
use Rattle.store_rows.proofs.Unique.{kept_key, key_columns, conflict_is, same_rowids, picked, only_one}
use Rattle.store_rows.proofs.Writing.{cast_null, source_row, kept_length, kept_cast, shown_of, puts_all, free_of}
use Rattle.sqlite.proofs.RunLemmas.{has_got}
use Rattle.std.proofs.lemmas.Bool.{and_parts, not-true}

module _ (schema : Schema) (at : ℕ) (table : Table) (width : ℕ) (sql : List ℕ)
    (text : PutsByKey schema at table width sql) (row : Row) (kept : SuitColumns table.columns row)
    (contents : Contents) (db : Trees)
    (was : AllByRecursion (λ t. AreRows t (contents t.tree) (db t.tree)) schema.tables) (obeys : Obeys schema db) where
  abbrev key : Row
  key = take width row

  abbrev rows : List Row
  rows = db table.tree

  abbrev held : List Row
  held = contents table.tree

  abbrev wide : ℕ
  wide = length table.columns

  long : wide ≡ length row
  long = kept_length table.columns row kept

  narrow : width ≤ length row
  narrow = omega (arith, text.narrow, long)

  listed : Has schema.tables table
  listed = has_got schema.tables at table text.there.found

  are : AreRows table held rows
  are = held_at schema at table contents db text.there was

  -- The table holds the row in place of the one that had its key, if one had, and the other tables hold what they held.
  abbrev IsPut : Trees → Type 0
  IsPut next = AreRows table (row ∷ without key held) (next table.tree)
      × AllByRecursion (λ t. t.tree ≢ table.tree → next t.tree ≡ db t.tree) schema.tables

  -- what a written row shows
  seen : (id : Value) → shown table (cast_row table (id ∷ row)) ≡ row
  seen id = ap (λ values. shown table (cast Integer id ∷ values)) (kept_cast table.columns row kept)
      ∙ shown_of table _ row long

  -- no row has the key
  inserted : (id : Value) (next : Trees) → ((r : Row) → Has rows r → has_key key (shown table r) ≡ false)
      → action.Writes schema Enforced db (edit_of db table [] Given 0 ((id ∷ row) ∷ [])) (Ok next) → IsPut next
  inserted id next none w =
      let edit = edit_of db table [] Given 0 ((id ∷ row) ∷ []) in
      let done = one_step schema Enforced db next edit (no_works schema Enforced 0 table.tree edit.news) w in
      let free = and_parts _ _ done.fresh in
      let keyed = and_parts _ _ done.keyed in
      let new = cast_row table (id ∷ row) in
      let put = puts table held rows new (not-true _ free.0) keyed.0 are in
      let all_stay : without key held ≡ held = filter_same _ _ held (λ c h.
      let it = unmapped (shown table) rows c (has_permuted _ _ c are.same h) in
      ap (λ r. not (has_key key r)) it.2 ∙ ap not (none it.0 it.1)) ∙ filter_all held in
      let shows : shown table new ∷ held ≡ row ∷ without key held = ap₂ ◌∷◌ (seen id) (sym all_stay) in
      (rw done.rows (subst (λ l. AreRows table l (put_row new rows)) shows put), done.tables)

  -- the row whose key it is
  module _ (there : Row) (has : Has rows there) (meets : has_key key (shown table there) ≡ true) (id : Value) where
    abbrev after : Row
    after = row ++ rowid there ∷ id ∷ row

    abbrev tests : List Term
    tests = op2 (Compare Eq Binary) (col 1 0) (col 0 wide) ∷ []

    abbrev project : List Term
    project = col 1 0 ∷ col 1 0 ∷ map (col 1) (range_with_len 1 width)
        ++ map (col 0) (range_with_len (wide + 2 + width) (wide - width))

    abbrev chosen : List Row
    chosen = filter (λ r. has_key key (shown table r)) rows

    -- its rowid follows the parameters
    id_given : column after wide ≡ rowid there
    id_given = ap (column after) (omega (arith, long)) ∙ get_or-append-add row (rowid there ∷ id ∷ row) 0 Null

    found_so : filter (λ r. list_all (holds (after ∷ r ∷ [])) tests) rows ≡ chosen
    found_so = filter_same _ _ rows (λ r other. and_true _ ∙ ap (equal Binary (rowid r)) id_given
        ∙ picked schema table width text.unique row db there r narrow text.narrow obeys listed are.numbered has meets
        other)

    single : (x : Row) × (chosen ≡ x ∷ [])
    single = only_one table chosen there (filter_numbered (shown table) rows are.numbered (has_key key))
        (has_kept _ rows there has meets) (λ a b one two.
        let first = has_filtered _ rows a one in
        let second = has_filtered _ rows b two in
        same_rowids schema table width text.unique row db a b narrow text.narrow obeys listed are.numbered first.0
        second.0 first.1 second.1)

    -- the row that is written in its place
    cells : (r : Row) → has_key key (shown table r) ≡ true → eval_all project (after ∷ r ∷ []) ≡ rowid r ∷ rowid r ∷ row
    cells r same =
        let env = after ∷ r ∷ [] in
        let as_long : length key ≡ width = omega (arith, length-take width row, narrow) in
        let old_part : map (λ t. eval t env) (map (col 1) (range_with_len 1 width)) ≡ key =
        map-map (λ t. eval t env) (col 1) (range_with_len 1 width)
        ∙ ap (λ n. map (column r) (range_with_len 1 n)) (sym as_long)
        ∙ key_columns key r 1 wide (kept_key table.columns row width text.texts kept)
        (omega (arith, as_long, text.narrow)) same in
        let past : drop (wide + 2 + width) after ≡ drop width row =
        ap (λ n. drop n after) (omega (arith, long)) ∙ drop-append-add row (rowid there ∷ id ∷ row) (suc (suc width)) in
        let new_part : map (λ t. eval t env) (map (col 0) (range_with_len (wide + 2 + width) (wide - width)))
        ≡ drop width row =
        map-map (λ t. eval t env) (col 0) (range_with_len (wide + 2 + width) (wide - width))
        ∙ columns_from after (wide + 2 + width) (wide - width)
        (omega (arith, long, text.narrow, length-append row (rowid there ∷ id ∷ row))) ∙ past in
        ap (λ values. rowid r ∷ rowid r ∷ values) (map-append (λ t. eval t env) (map (col 1) (range_with_len 1 width)) _
        ∙ ap₂ ◌++◌ old_part new_part ∙ take-append-drop width row)

    updated : (next : Trees) (found : List Row)
        → Answers (record { schema = schema; trees = db }) (record { lets = []; body = excluded table width }) after
        found
        → action.Writes schema Enforced db (edit_of db table (ids_of found) Given 1 found) (Ok next) → IsPut next
    updated next found answers w =
        let x = single.0 in
        let of_key : has_key key (shown table x) ≡ true =
        (has_filtered (λ r. has_key key (shown table r)) rows x (subst (λ l. Has l x) (sym single.1) (inl refl))).1 in
        let line = rowid x ∷ rowid x ∷ row in
        let scan : IsPermutation (map (λ r. eval_all project (after ∷ r ∷ [])) chosen) found =
        subst (λ l. IsPermutation (map (λ r. eval_all project (after ∷ r ∷ [])) l) found) found_so
        (scans table.tree tests project [] db after found answers.answer) in
        let one : found ≡ line ∷ [] = one_permutation line found (subst (λ c. IsPermutation (c ∷ []) found)
        (cells x of_key)
        (subst (λ l. IsPermutation (map (λ r. eval_all project (after ∷ r ∷ [])) l) found) single.1 scan)) in
        let edit = edit_of db table (ids_of found) Given 1 found in
        let done = one_step schema Enforced db next edit (free_of schema table db text.free found) w in
        let ids : IsPermutation (map (λ r. id_in (rowid r)) chosen) (ids_of found) =
        same_rows (ap (map (λ r. id_in (rowid r))) single.1 ∙ ap ids_of (sym one)) in
        let left = takes table held rows (has_key key) (ids_of found) ids are in
        let news : edit.news ≡ cast_row table (rowid x ∷ row) ∷ [] =
        given (without_all rows (ids_of found)) (map (λ s. cast_row table (drop 1 s)) found)
        ∙ ap (map (λ s. cast_row table (drop 1 s))) one in
        let all = puts_all table edit.news (without key held) (without_all rows (ids_of found)) done.fresh done.keyed
        left in
        let shows : map (shown table) edit.news ≡ row ∷ [] =
        ap (map (shown table)) news ∙ ap (λ c. c ∷ []) (seen (rowid x)) in
        let now = subst (λ front. AreRows table (front ++ without key held) (edited db edit)) shows all in
        (rw done.rows now, done.tables)

  -- ---- what ON CONFLICT leads to

  abbrev task : Option ℕ → Task
  task limit = task_of limit schema table row

  -- the new row as `excluded` reads it
  excludes : (id : Value) → rowid (id ∷ row) ∷ map (λ at. column (id ∷ row) (place_of table at)) (range_with_len 0 wide)
      ≡ id ∷ row
  excludes id = ap (λ values. id ∷ values)
      ((λ i. map (λ at. column (id ∷ row) (if is_key (text.unnamed i) at then 0 else at + 1)) (range_with_len 0 wide))
      ∙ (λ i. map (λ at. ap (column (id ∷ row)) (add-one at) i) (range_with_len 0 wide))
      ∙ columns_from row 0 wide (omega (arith, long)))

  put_written : (limit : Option ℕ) (new : Row) (w : Written) → Puts (task limit) new db (Ok w)
      → action.Writes schema Enforced db (edit_of db table [] Given 0 (new ∷ [])) (Ok w.trees)
  put_written limit new w h =
      let it = went h in
      let trees : w.trees ≡ it.0 = ap (λ (v : Written). v.trees) (same_value it.2) in
      subst (λ t. action.Writes schema Enforced db (edit_of db table [] Given 0 (new ∷ [])) (Ok t)) (sym trees) it.1

  cleared : (limit : Option ℕ) (new : Row) (others : List Row) (w : Written)
      → Clears (task limit) Abort new db others (Ok w) → Puts (task limit) new db (Ok w)
  cleared limit new [] w h = h
  cleared limit new (x ∷ others) w h = h

  module _ (limit : Option ℕ) (id : Value) (w : Written) where
    -- the row is in conflict with the new one where it has its key
    in_conflict : (r : Row) → conflicts (Some (range_with_len 1 width)) schema.indexes table (id ∷ row) r
        ≡ has_key key (shown table r)
    in_conflict r = conflict_is schema table width text.unique row r id narrow text.narrow

    resolves : (found : List Row)
        → AreConflicts (Some (range_with_len 1 width)) schema.indexes table rows (id ∷ row) found
        → Meets (task limit) (Upserts (task limit) Abort (id ∷ row) db []) (id ∷ row) db (by_key table width) found
        (Ok w) → IsPut w.trees
    resolves [] c h = inserted id w.trees (λ r has. elim (cases_Bool (has_key key (shown table r))) [
      | inl meets ↦ absurd (c.complete r has (in_conflict r ∙ meets))
      | inr none ↦ none
    ]) (put_written limit (id ∷ row) w (cleared limit (id ∷ row) h.0 w h.2))
    resolves (there ∷ more) c h =
        let it = c.sound there (inl refl) in
        let first = it.0 in
        let meets : has_key key (shown table first) ≡ true = sym (in_conflict first) ∙ it.2 in
        let before : row ++ rowid there ∷ shows_row table (id ∷ row) ≡ row ++ rowid first ∷ id ∷ row =
        ap (λ r. row ++ rowid r ∷ shows_row table (id ∷ row)) it.3
        ∙ ap (λ values. row ++ rowid first ∷ values) (excludes id) in
        let ran = went h in
        let found = ran.0 in
        let wrote = went ran.2 in
        let trees : w.trees ≡ wrote.0 = ap (λ (v : Written). v.trees) (same_value wrote.2) in
        updated first it.1 meets id w.trees found (subst (λ values. Answers (record { schema = schema; trees = db })
        (record { lets = []; body = excluded table width }) values found) before ran.1)
        (subst (λ t. action.Writes schema Enforced db (edit_of db table (ids_of found) Given 1 found) (Ok t))
        (sym trees)
        wrote.1)

    pub resolved : Upserts (task limit) Abort (id ∷ row) db (by_key table width ∷ []) (Ok w) → IsPut w.trees
    resolved h = resolves h.0 h.1 h.2

-- two changes of one table are one
in_table_twice : (table : Table) (f g : List Row → List Row) (contents : Contents) (t : ℕ)
    → in_table table (λ rows. g (f rows)) contents t ≡ in_table table g (in_table table f contents) t
in_table_twice table f g contents t = by (t == table.tree) refl
  where
    by : (b : Bool) → (t == table.tree) ≡ b
        → in_table table (λ rows. g (f rows)) contents t ≡ in_table table g (in_table table f contents) t
    by true e = rw e refl
    by false e = rw e refl

pub put_by_key : (schema : Schema) (at : ℕ) (table : Table) (width : ℕ) (sql : List ℕ) (row : Row) (old new : State)
    (count : ℕ) (contents : Contents) → PutsByKey schema at table width sql → SuitColumns table.columns row
    → HasContents schema contents old.now → Executes sql row old new (Ok count)
    → HasContents schema (with_put table (take width row) row contents) new.now
put_by_key schema at table width sql row old new count contents text kept was h =
    let columns = length table.columns in
    let terms = lit Null ∷ map (col 0) (range_with_len 0 columns) in
    let db = old.now.trees in
    let rows = db table.tree in
    let clauses = by_key table width ∷ [] in
    let w = runs_as sql row old new schema was.schema_is (InsertOr at Abort (Values terms (columns + 1)) clauses)
    text.command text.plain count h in
    let tried = tries old new schema was.schema_is at table text.there.found (statement_of sql (understood schema sql))
    row count terms (columns + 1) clauses (Null ∷ row) text.uncounted text.timeless
    (source_row row columns (kept_length table.columns row kept)) w in
    let is_new : with_rowid Chosen rows (cast_row table (Null ∷ row)) ≡ Int (next_rowid rows) ∷ row =
    ap₂ (λ id cells. with_rowid Chosen rows (id ∷ cells)) cast_null (kept_cast table.columns row kept) in
    let put = resolved schema at table width sql text row kept contents db was.tables
    (subst (λ s. Obeys s db) was.schema_is was.sound.obeys) old.step_limit (Int (next_rowid rows)) tried.0
    (subst (λ r. Upserts (task_of old.step_limit schema table row) Abort r db clauses (Ok tried.0)) is_new tried.2) in
    let trees : new.now.trees ≡ tried.0.trees = ap (λ (d : Database). d.trees) tried.1 in
    let make = λ (before : List Row). row ∷ without (take width row) before in
    let all = each_table table make contents db new.now.trees
    (subst (λ (t : Trees). AreRows table (make (contents table.tree)) (t table.tree)) (sym trees) put.0) schema.tables
    text.there.alone was.tables
    (subst (λ (t : Trees). AllByRecursion (λ u. u.tree ≢ table.tree → t u.tree ≡ db u.tree) schema.tables)
    (sym trees) put.1) in
    record {
      schema_is = ap (λ (d : Database). d.schema) tried.1;
      sound = w.sound;
      tables = subst (λ (c : Contents). AllByRecursion (λ t. AreRows t (c t.tree) (new.now.trees t.tree)) schema.tables)
          (λ i t. in_table_twice table (without (take width row)) (with_row row) contents t i) all;
    }
