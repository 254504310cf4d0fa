-- What a query of one table answers.
use Rattle.std.proofs.Common.{◌≡◌, ℕ, length, List, [], ◌∷◌, map, filter}
use Rattle.std.proofs.Common.{IsPermutation, arith, sym, ap, subst, ◌∙◌}
use Rattle.std.specs.List.{range_with_len, list_all}
use Rattle.std.proofs.lemmas.List.{take_all}
use Rattle.std.proofs.lemmas.List.Sorted.{IsPermutation-sym}
use Rattle.sqlite.specs.Order.{Row}
use Rattle.sqlite.specs.Schema.{Schema}
use Rattle.sqlite.specs.Table.{Table}
use Rattle.sqlite.specs.Term.{col, eval, eval_all, holds}
use Rattle.sqlite.specs.Command.TheVariants.{Select}
use Rattle.sqlite.specs.State.{State, Shown}
use Rattle.sqlite.proofs.Callers.{reads_as}
use Rattle.sqlite_schema.specs.declared.program.Program.{Program}
use Rattle.sqlite_trees.proofs.ListLemmas.{map-map, filter-map}
use Rattle.store_rows.specs.Rows.{shown, has_key, AreFound}
use Rattle.store_rows.specs.Texts.{key_tests, scan_by, ReadsRows}
use Rattle.store_rows.proofs.Statements.{scans}
use Rattle.store_rows.proofs.Writing.{found_by_key}

-- the answer has the rows that have the key
pub found_in : (schema : Schema) (table : Table) (width : ℕ) (sql : List ℕ) (key : Row) (old new : State)
    (rows : List Row) → ReadsRows schema table width sql → width ≡ length key → old.now.schema ≡ schema
    → Shown sql key old new rows → AreFound table key rows (old.now.trees table.tree)
found_in schema table width sql key old new rows text e has h =
    let n = length table.columns in
    let project = map (col 1) (range_with_len 1 n) in
    let q : Program = record { lets = []; body = scan_by table.tree (key_tests 0 width) project text.order } in
    let all = old.now.trees table.tree in
    let read = reads_as sql key old new schema has (Select q text.names) text.command text.plain text.unlisted rows h in
    let scan = scans table.tree (key_tests 0 width) project text.order old.now.trees key rows read.answer in
    let cells : (r : Row) → eval_all project (key ∷ r ∷ []) ≡ shown table r =
    λ r. map-map (λ t. eval t (key ∷ r ∷ [])) (col 1) (range_with_len 1 n) in
    let some : filter (λ r. list_all (holds (key ∷ r ∷ [])) (key_tests 0 width)) all ≡ filter
    (λ r. has_key key (shown table r)) all =
    found_by_key table width key (omega (arith, e)) text.narrow all
    ∙ ap (λ k. filter (λ r. has_key k (shown table r)) all) (take_all width key (omega (arith, e))) in
    let whole : map (λ r. eval_all project (key ∷ r ∷ [])) (filter
    (λ r. list_all (holds (key ∷ r ∷ [])) (key_tests 0 width)) all) ≡ filter (has_key key)
    (map (shown table) all) =
    (λ i. map (λ r. cells r i) (filter (λ r. list_all (holds (key ∷ r ∷ [])) (key_tests 0 width)) all))
    ∙ ap (map (shown table)) some ∙ sym (filter-map (has_key key) (shown table) all) in
    IsPermutation-sym _ _ (subst (λ l. IsPermutation l rows) whole scan)
