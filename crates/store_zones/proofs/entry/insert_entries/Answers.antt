use Rattle.std.proofs.Common.{map, rules}
use Rattle.std.specs.List.{flat_map}
use Rattle.store_rows.specs.Calls.{puts}
use Rattle.store_rows.specs.Rows.{HasContents, in_table, with_rows}
use Rattle.store_rows.specs.Texts.{SuitColumns}
use Rattle.store_rows.proofs.CallLemmas.{runs_then, runs_err, follows_err}
use Rattle.store_rows.proofs.InsideLemmas.{on_ok, turns_then}
use Rattle.store_schema.specs.Rows.{entry_row, chosen_in}
use Rattle.store_schema.specs.Stands.{rows_of}
use Rattle.store_schema.specs.Tables.{store_schema, entry, chosen}
use Rattle.store_zones.specs.Chosen.{insert_chosen, insert_numbers}
use Rattle.store_zones.specs.Entries.{insert_entry, insert_entries}
use Rattle.store_zones.proofs.RowForms.{kept_entry}
use Rattle.store_zones.proofs.Runs.{rows_have}
use Rattle.store_zones.proofs.Texts.{adds_entry, adds_entries}
use Rattle.store_zones.proofs.ZoneLemmas.{entries_more}
use Rattle.store_zones.proofs.entry.insert_entries.Goals as goal

pub returns-clause-ok : goal.returns-clause-ok
returns-clause-ok g c =
    let zone = c.args.zone in
    let es = map (λ e. e.now) c.args.entries.now in
    on_ok c.insert_numbers.result _ _
    (turns_then g.S.Store c.args.tx.now.conn.now c.insert_items.new.tx.conn.now c.insert_numbers.new.tx.conn.now
    (HasContents store_schema) (in_table entry (with_rows (map (entry_row zone) es)))
    (in_table chosen (with_rows (flat_map (chosen_in zone) es))) c.insert_numbers.ensures.continues.inside
    (c.in_ok-insert_items.ensures.ok store_schema 7 entry adds_entries adds_entry
    (rows_have (SuitColumns entry.columns) (entry_row zone) (kept_entry zone) es))) c.insert_numbers.ensures.ok

pub returns-clause-stands : goal.returns-clause-stands
returns-clause-stands g c =
    on_ok c.insert_numbers.result _ _ (λ turned i j was is change more clean held.
    entries_more i j c.args.zone was is change (map (λ e. e.now) c.args.entries.now) _ more
    (turned clean (rows_of i) held)) (returns-clause-ok g c)

pub returns-clause-calls : goal.returns-clause-calls
returns-clause-calls g c =
    let zone = c.args.zone in
    let es = map (λ e. e.now) c.args.entries.now in
    runs_then g.S.Store (puts insert_entries insert_entry (map (entry_row zone) es))
    (puts insert_numbers insert_chosen (flat_map (chosen_in zone) es)) c.args.tx.now.conn.now
    c.insert_items.new.tx.conn.now c.insert_numbers.new.tx.conn.now c.insert_items.result (tt {0})
    c.insert_numbers.result c.insert_items.ensures.continues.inside c.insert_numbers.ensures.continues.inside
    c.in_ok-insert_items.was c.insert_items.ensures.calls c.insert_numbers.ensures.calls

pub returns-in_err-insert_items-clause-calls : goal.returns-in_err-insert_items-clause-calls
returns-in_err-insert_items-clause-calls g c =
    let zone = c.args.zone in
    let es = map (λ e. e.now) c.args.entries.now in
    runs_err g.S.Store (puts insert_entries insert_entry (map (entry_row zone) es))
    (puts insert_numbers insert_chosen (flat_map (chosen_in zone) es)) c.args.tx.now.conn.now
    c.insert_items.new.tx.conn.now c.insert_items.result c.from_residual.result (search rules)
    (follows_err c.insert_items.result _ _ c.in_err-insert_items.was c.from_residual.ensures.1)
    c.insert_items.ensures.calls
