-- What one INSERT or DELETE makes of the trees.
use Rattle.std.proofs.Common.{◌≡◌, ◌⊎◌, inl, inr, ℕ, ℤ, ◌/◌, length, ◌-◌, ◌^◌, drop, if◌then◌else◌}
use Rattle.std.proofs.Common.{MatchBool, filter, IsPermutation, List, [], ◌∷◌, ◌++◌, map, slice_get}
use Rattle.std.proofs.Common.{unwrap_or, Bool, true, false, Option, Some, None, Ok, Err, Result, IsTrue, refl, sym}
use Rattle.std.proofs.Common.{ap, subst, subst₂, ◌∙◌, append-nil, fold}
use Rattle.std.proofs.lemmas.Bool.{cases_Bool, and_parts, not-true}
use Rattle.std.specs.List.{flat_map, list_all}
use Rattle.std.proofs.lemmas.List.Sorted.{IsPermutation-map}
use Rattle.terms.proofs.Lists.{flat_if_single}
use Rattle.sqlite.specs.declared.error.Error.{Error}
use Rattle.sqlite.specs.declared.error.Error.TheVariants.{SqliteFailure}
use Rattle.sqlite.specs.declared.error.ErrorCode.TheVariants.{TransactionState}
use Rattle.sqlite.specs.Order.{Row}
use Rattle.sqlite.specs.declared.types.Value.TheVariants.{Null}
use Rattle.sqlite.specs.Query.{Output, output}
use Rattle.sqlite.specs.Program.{IsProgramAnswer}
use Rattle.sqlite_value.specs.declared.keys.Key.{Key}
use Rattle.sqlite_trees.proofs.ListLemmas.{map-map}
use Rattle.sqlite.specs.Term.{Term, eval_all, holds}
use Rattle.sqlite.specs.Tree.{Trees, put_row}
use Rattle.sqlite.specs.Table.{Table}
use Rattle.sqlite.specs.Schema.{Schema}
use Rattle.sqlite.specs.Source.TheVariants.{Values}
use Rattle.sqlite.specs.Command.TheVariants.{Insert, InsertOr, Update, Delete}
use Rattle.sqlite_schema.specs.declared.command.Conflict.TheVariants.{Abort}
use Rattle.sqlite_schema.specs.declared.command.Upsert.{Upsert}
use Rattle.sqlite.specs.Cast.{cast_row}
use Rattle.sqlite.specs.Edit.{is_taken, put_all, edit_of, with_rowid, are_fresh, Applies}
use Rattle.sqlite_rules.specs.Edit.{Edit, taken_by}
use Rattle.sqlite.specs.Rowids.TheVariants.{Chosen, Given, Above}
use Rattle.sqlite.specs.Effect.{Database, Answers, value_rows}
use Rattle.sqlite.specs.Does.{Tally, OnTable, Concludes}
use Rattle.sqlite.specs.Rows.{Written, Task, stamped, rowids_for, count_of, nothing, Tries, TriesEach, Part, Then}
use Rattle.sqlite.specs.Rows.{Upserts, Sourced, Queried, Edited, Counter, Counts, Gives, higher, last_id}
use Rattle.sqlite.specs.Rows.{Inserts, InsertsOr, Updates, Deletes}
use Rattle.sqlite.specs.State.{State, HasCleanDisk, mode_of, Writes, Executes, ExecutesInside}
use Rattle.sqlite.specs.Store.{Ghosts}
use Rattle.sqlite.specs.Held.{Held, state}
use Rattle.sqlite.proofs.Callers.{one_step}
use Rattle.sqlite_schema.specs.declared.schema.Keys.TheVariants.{Enforced}
use Rattle.sqlite_schema.specs.declared.program.Program.{Program}
use Rattle.sqlite_rules.specs.Action.{works}
use Rattle.sqlite_rules.specs.Action as action
use Rattle.sqlite_rules.specs.Calls.{ids_of}
use Rattle.sqlite_rules.proofs.ActionLemmas.{no_works}
use Rattle.store_rows.specs.Texts.{scan_by}

-- a statement that answered in a transaction ran
pub ran_inside : {S : Type 0} (g : Ghosts S) (old new : Held S) (sql : List ℕ) (params : Row) (r : Result ℕ Error)
    → (old.in_transaction ≡ false → (r ≡ Err (SqliteFailure TransactionState)) × (new ≡ old))
    → (HasCleanDisk (state g new) → IsTrue old.in_transaction
    → ExecutesInside 0 sql params (state g old) (state g new) r) → HasCleanDisk (state g new)
    → (n : ℕ) → r ≡ Ok n → Executes sql params (state g old) (state g new) (Ok n)
ran_inside g old new sql params r ended runs clean n is = elim (cases_Bool old.in_transaction) [
  | inl inside ↦ (rw is at (runs clean inside)).0
  | inr outside ↦ absurd (let e = (ended outside).0 in cc)
]

-- a part that gave a value did not stop on the way
pub went : {B E R : Type 0} {b : B} {Stops : E → Type 0} → ((stop : E) × Stops stop × (Ok b ≡ Err stop)) ⊎ R → R
went (inl stopped) = absurd (let e = stopped.2 in cc)
went (inr on) = on

not_counted : (b t : Bool) (P Q : Type 0) → b ≡ false → MatchBool (if b then t else false) P Q → Q
not_counted false t P Q e h = h
not_counted true t P Q e h = absurd cc

no_stamps : (table : Table) (params : Row) → table.stamps.terms ≡ [] → stamped table params ≡ params
no_stamps table params none = ap (λ (terms : List Term). params
    ++ eval_all terms (drop (length params - length table.stamps.formats) params ∷ [])) none ∙ append-nil params

pub same_value : {B E : Type 0} {a b : B} → ◌≡◌ {A = Result B E} (Ok a) (Ok b) → a ≡ b
same_value e = cc

-- what the parts of a statement read
abbrev pub task_of : Option ℕ → Schema → Table → Row → Task
task_of limit schema table params = record {
  limit = limit;
  keys = Enforced;
  schema = schema;
  table = table;
  params = params;
}

-- a row that was tried was not refused
judged : (task : Task) (clauses : List Upsert) (row : Row) (db : Trees) (w : Written)
    → Tries task Abort clauses row db (Ok w) → Upserts task Abort row db clauses (Ok w)
judged task clauses row db w (inl big) = absurd (let e = big.1 in cc)
judged task clauses row db w (inr (None, fits, on)) = on
judged task clauses row db w (inr (Some why, breaks, refused)) = absurd (let e = refused in cc)

module _ (old new : State) (schema : Schema) (has : old.now.schema ≡ schema) (at : ℕ) (table : Table)
    (found : slice_get schema.tables at ≡ Some table) (text : List ℕ) (params : Row) (count : ℕ) where
  abbrev db : Trees
  db = old.now.trees

  abbrev at_old : Database
  at_old = record { schema = schema; trees = db }

  abbrev task : Task
  task = task_of old.step_limit schema table params

  -- a statement on the rows of the table leaves what its rows are written to
  wrote : (Wrote : Task → Part Written) (tally : Tally)
      → OnTable old.step_limit (mode_of old) params old.now at
      (λ it. Then (Wrote it) (Concludes it (mode_of old) None)) (Ok (tally, new.now))
      → (w : Written) × Wrote task (Ok w) × (new.now ≡ record { schema = schema; trees = w.trees })
  wrote Wrote tally changed =
      let on_schema = subst (λ s. OnTable old.step_limit (mode_of old) params (record old.now { schema = s }) at
      (λ it. Then (Wrote it) (Concludes it (mode_of old) None)) (Ok (tally, new.now))) has changed in
      let done = went (rw found at on_schema) in
      (done.0, done.1, ap (λ (p : Tally × Database). p.1) (same_value (went (went done.2).2).2))

  -- It is given rows, and what it makes of these leaves the trees, with no count of rowids beside them.
  sourced : {M : Type 0} (terms : List Term) (width : ℕ) (Makes : List Row → ℤ → Part M) (trees_of : M → Trees)
      (top : List Row → ℤ → M → ℤ) (made : List Row → ℤ → M → Trees → Written) (w : Written)
      → ((rows : List Row) (first : ℤ) (m : M) (next : Trees) → (made rows first m next).trees ≡ next)
      → table.is_counted ≡ false → table.stamps.terms ≡ []
      → Then (Sourced old.step_limit at_old (stamped table params) (Values terms width)) (λ rows. Then (Counter task db)
      (λ counter. Then (Makes rows (count_of counter)) (λ m. Then (Counts task (trees_of m) counter
      (top rows (count_of counter) m)) (λ next. Gives (made rows (count_of counter) m next))))) (Ok w)
      → (rows : List Row) × (rows ≡ value_rows params width (length terms / width) terms) × (first : ℤ)
      × (rowids_for table first ≡ Chosen) × (m : M) × Makes rows first (Ok m) × (w.trees ≡ trees_of m)
  sourced terms width Makes trees_of top made w shown_by uncounted timeless h =
      let given = went h in
      let counter = went given.2 in
      let first = count_of counter.0 in
      let written = went counter.2 in
      let counted = went written.2 in
      let same : counted.0 ≡ trees_of written.0 =
      same_value (not_counted table.is_counted _ _ _ uncounted counted.1) in (
        given.0,
        subst (λ (stamps : Row). given.0 ≡ value_rows stamps width (length terms / width) terms)
            (no_stamps table params timeless) given.1.1,
        first,
        ap (λ b. if b then Above first else Chosen) uncounted,
        written.0,
        written.1,
        ap (λ (it : Written). it.trees) (same_value counted.2) ∙ shown_by given.0 first written.0 counted.0 ∙ same,
      )

  -- It asks for rows, and an edit that these give leaves the trees.
  queried : (q : Program) (edit : List Row → Edit) (made : List Row → Trees → Written)
      → ((rows : List Row) (next : Trees) → (made rows next).trees ≡ next)
      → (w : Written) × Then (Queried old.step_limit at_old q params) (λ rows. Then
      (Edited schema Enforced db (edit rows)) (λ next. Gives (made rows next))) (Ok w)
      × (new.now ≡ record { schema = schema; trees = w.trees })
      → (rows : List Row) × Answers at_old q params rows × (new.now.schema ≡ schema)
      × action.Writes schema Enforced db (edit rows) (Ok new.now.trees)
  queried q edit made shown_by (w, h, now) =
      let given = went h in
      let written = went given.2 in
      let trees : w.trees ≡ written.0 = ap (λ (it : Written). it.trees) (same_value written.2)
      ∙ shown_by given.0 written.0 in (
        given.0,
        given.1,
        ap (λ (d : Database). d.schema) now,
        subst (λ (t : Trees). action.Writes schema Enforced db (edit given.0) (Ok t))
            (sym (ap (λ (d : Database). d.trees) now ∙ trees)) written.1,
      )

  -- the rows of the statement are put in, each with the rowid that comes next
  pub inserts : (terms : List Term) (width : ℕ) → table.is_counted ≡ false → table.stamps.terms ≡ []
      → Writes old new None (Insert at (Values terms width)) text params count
      → (rows : List Row) × (rows ≡ value_rows params width (length terms / width) terms) × (new.now.schema ≡ schema)
      × action.Writes schema Enforced db (edit_of db table [] Chosen 0 rows) (Ok new.now.trees)
  inserts terms width uncounted timeless w =
      let edit = λ (rows : List Row) (first : ℤ). edit_of db table [] (rowids_for table first) 0 rows in
      let (done, how, now) = wrote (λ it. Inserts it (Values terms width) db) w.tally w.changed in
      let (rows, are, first, chosen, next, wrote_it, trees) =
      sourced terms width (λ rows first. Edited schema Enforced db (edit rows first)) (λ next. next)
      (λ rows first next. fold higher first (edit rows first).news)
      (λ rows first mid next. record { trees = next; rows = (edit rows first).news; last = last_id (edit rows first).news })
      done (λ _ _ _ _. refl) uncounted timeless how in (
        rows,
        are,
        ap (λ (d : Database). d.schema) now,
        subst₂ (λ ids (t : Trees). action.Writes schema Enforced db (edit_of db table [] ids 0 rows) (Ok t)) chosen
            (sym (ap (λ (d : Database). d.trees) now ∙ trees)) wrote_it,
      )

  -- the one row of the statement is written, with the rowid that comes next, or what ON CONFLICT says is done
  pub tries : (terms : List Term) (width : ℕ) (clauses : List Upsert) (source : Row) → table.is_counted ≡ false
      → table.stamps.terms ≡ [] → value_rows params width (length terms / width) terms ≡ source ∷ []
      → Writes old new None (InsertOr at Abort (Values terms width) clauses) text params count
      → (w : Written) × (new.now ≡ record { schema = schema; trees = w.trees })
      × Upserts task Abort (with_rowid Chosen (db table.tree) (cast_row table source)) db clauses (Ok w)
  tries terms width clauses source uncounted timeless one w =
      let (done, how, now) = wrote (λ it. InsertsOr it Abort clauses (Values terms width) db) w.tally w.changed in
      let (rows, are, first, chosen, last, wrote_it, trees) =
      sourced terms width (λ rows first. TriesEach task Abort clauses rows first (nothing db)) (λ tried. tried.0.trees)
      (λ rows first tried. tried.1) (λ rows first tried next. record tried.0 { trees = next })
      done (λ _ _ _ _. refl) uncounted timeless how in
      let each = subst (λ (all : List Row). TriesEach task Abort clauses all first (nothing db) (Ok last)) (are ∙ one)
      wrote_it in
      let tried = went each in
      let alone = subst (λ ids. Tries task Abort clauses (with_rowid ids (db table.tree) (cast_row table source)) db
      (Ok tried.0)) chosen tried.1 in
      let end : last.0.trees ≡ tried.0.trees = ap (λ (p : Written × ℤ). p.0.trees) (same_value tried.2) in (
        tried.0,
        subst (λ (t : Trees). new.now ≡ record { schema = schema; trees = t }) (trees ∙ end) now,
        judged task clauses _ db tried.0 alone,
      )

  -- the rows that the query finds are taken out by their rowids
  pub deletes : (q : Program) → Writes old new None (Delete at q) text params count
      → (rows : List Row) × Answers at_old q params rows × (new.now.schema ≡ schema)
      × action.Writes schema Enforced db (edit_of db table (ids_of rows) Given 0 []) (Ok new.now.trees)
  deletes q w =
      let edit = λ (rows : List Row). edit_of db table (ids_of rows) Given 0 [] in
      queried q edit (λ rows next. record { trees = next; rows = taken_by db (edit rows); last = None }) (λ _ _. refl)
      (wrote (λ it. Deletes it q db) w.tally w.changed)

  -- the rows that the query gives take the place of those whose rowids it gives
  pub updates : (q : Program) → Writes old new None (Update at q) text params count
      → (rows : List Row) × Answers at_old q params rows × (new.now.schema ≡ schema)
      × action.Writes schema Enforced db (edit_of db table (ids_of rows) Given 1 rows) (Ok new.now.trees)
  updates q w =
      let edit = λ (rows : List Row). edit_of db table (ids_of rows) Given 1 rows in
      queried q edit (λ rows next. record { trees = next; rows = (edit rows).news; last = None }) (λ _ _. refl)
      (wrote (λ it. Updates it q params db) w.tally w.changed)

-- One row is put in. No foreign key acts on it.
pub puts_one : (schema : Schema) (table : Table) (db next : Trees) (sources : List Row) (new : Row)
    → (edit_of db table [] Chosen 0 sources).news ≡ new ∷ []
    → action.Writes schema Enforced db (edit_of db table [] Chosen 0 sources) (Ok next)
    → (is_taken (db table.tree) new ≡ false) × (next table.tree ≡ put_row new (db table.tree))
    × Applies schema Enforced db (edit_of db table [] Chosen 0 sources) next
puts_one schema table db next sources new is w =
    let edit = edit_of db table [] Chosen 0 sources in
    let a = one_step schema Enforced db next edit (no_works schema Enforced 0 table.tree edit.news) w in (
      not-true _ (and_parts _ _ (subst (λ news. are_fresh (db table.tree) news ≡ true) is a.fresh)).0,
      a.rows
          ∙ ap (put_all (db table.tree)) is,
      a,
    )

abbrev no_tables : List (List Row)
no_tables = []

not_given : (b : Bool) (at : ℕ) (rows : List Row) → unwrap_or (if b then slice_get no_tables at else None) rows ≡ rows
not_given true at rows = refl
not_given false at rows = refl

-- what a scan of one table answers
pub scans : (tree : ℕ) (tests project : List Term) (order : List (Term × Key)) (db : Trees) (params : Row)
    (rows : List Row)
    → IsProgramAnswer [] (scan_by tree tests project order) db params rows
    → IsPermutation (map (λ r. eval_all project (params ∷ r ∷ []))
    (filter (λ r. list_all (holds (params ∷ r ∷ [])) tests) (db tree))) rows
scans tree tests project order db params rows h =
    let q = scan_by tree tests project order in
    let a = h Null in
    let staged : a.staged ≡ map (λ r. params ∷ r ∷ []) (filter (λ r. list_all (holds (params ∷ r ∷ [])) tests)
    (db tree)) =
    a.grouped ∙ ap (flat_map (λ r. if list_all (holds (params ∷ r ∷ [])) tests then (params ∷ r ∷ []) ∷ [] else []))
    (not_given _ (tree - 2 ^ 31) (db tree)) ∙ flat_if_single _ _ (db tree) in
    let kept : map (λ (o : Output). o.1) a.kept ≡ map (λ r. eval_all project (params ∷ r ∷ []))
    (filter (λ r. list_all (holds (params ∷ r ∷ [])) tests) (db tree)) =
    ap (map (λ (o : Output). o.1)) (a.distinct ∙ ap (map (output q)) staged) ∙ map-map _ _ _ ∙ map-map _ _ _ in
    let same = IsPermutation-map (λ (o : Output). o.1) _ _ a.same in
    subst (λ l. IsPermutation l rows) kept (subst (IsPermutation (map (λ (o : Output). o.1) a.kept)) (sym a.shown) same)
