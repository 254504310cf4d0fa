use Rattle.std.proofs.Common.{[], ◌∷◌, is_some, if◌then◌else◌, ap, ◌∙◌, rules}
use Rattle.terms.specs.Types.{Entry}
use Rattle.zones_maps.specs.Delta.{number_of}
use Rattle.store_rows.specs.Rows.{HasContents, in_table}
use Rattle.store_rows.proofs.CallLemmas.{runs_then, runs_err, follows_err}
use Rattle.store_rows.proofs.InsideLemmas.{on_ok, turns_then}
use Rattle.store_schema.specs.Rows.{entry_row}
use Rattle.store_schema.specs.Stands.{rows_of}
use Rattle.store_schema.specs.Tables.{store_schema, entry, chosen}
use Rattle.store_zones.specs.Calls.{number_calls}
use Rattle.store_zones.specs.Entries.{insert_entry, upsert_entry, entry_key}
use Rattle.store_zones.specs.Chosen.{number_before}
use Rattle.store_zones.specs.Zones.{numbered, rows_with}
use Rattle.store_zones.proofs.ByNumber.{Renumbers, renumbers_as}
use Rattle.store_zones.proofs.ZoneLemmas.{entry_put}
use Rattle.store_zones.proofs.entry.upsert_entry.Given.{Over}
use Rattle.store_zones.proofs.entry.upsert_entry.Goals.{After-change_number}
use Rattle.store_zones.proofs.entry.upsert_entry.Goals as goal

changed : (g : Over) (c : After-change_number g) → Renumbers g.S.Store c.upsert_entry_row.new.tx.conn.now
    c.change_number.new.tx.conn.now c.change_number.result c.args.zone c.args.entry.now.id
    (number_before c.args.number_before) (number_of c.args.entry.now)
changed g c =
    renumbers_as g.S.Store c.upsert_entry_row.new.tx.conn.now c.change_number.new.tx.conn.now c.change_number.result
    c.args.zone
    _ c.args.entry.now.id _ (number_before c.args.number_before) _ (number_of c.args.entry.now)
    (ap (λ (x : Entry). x.id) c.entry.view_is) c.number_or_first.ensures (c.get.ensures.value ∙ c.number.ensures)
    (c.change_number.ensures.calls, c.change_number.ensures.ok)

pub returns-clause-ok : goal.returns-clause-ok
returns-clause-ok g c =
    let zone = c.args.zone in
    let stood = c.args.number_before in
    let e = c.args.entry.now in
    on_ok c.change_number.result _ _
    (turns_then g.S.Store c.args.tx.now.conn.now c.upsert_entry_row.new.tx.conn.now c.change_number.new.tx.conn.now
    (HasContents store_schema)
    (in_table entry (rows_with (is_some stood) (entry_key zone e.id) (entry_row zone e)))
    (in_table chosen (numbered zone e.id (number_before stood) (number_of e)))
    c.change_number.ensures.continues.inside (rw c.is_some.ensures at c.in_ok-upsert_entry_row.ensures.ok))
    (changed g (goal.at.returns-clause-ok g c).After-change_number).1

pub returns-clause-stands : goal.returns-clause-stands
returns-clause-stands g c =
    on_ok c.change_number.result _ _ (λ turned old same i j was is change put clean held.
    entry_put i j c.args.zone was is change old c.args.number_before c.args.entry.now _ same put
    (turned clean (rows_of i) held)) (returns-clause-ok g c)

pub returns-clause-calls : goal.returns-clause-calls
returns-clause-calls g c =
    let zone = c.args.zone in
    let stood = c.args.number_before in
    let e = c.args.entry.now in
    runs_then g.S.Store ((if is_some stood then upsert_entry else insert_entry, entry_row zone e) ∷ [])
    (number_calls zone e.id (number_before stood) (number_of e)) c.args.tx.now.conn.now
    c.upsert_entry_row.new.tx.conn.now c.change_number.new.tx.conn.now c.upsert_entry_row.result (tt {0})
    c.change_number.result
    c.upsert_entry_row.ensures.continues.inside c.change_number.ensures.continues.inside c.in_ok-upsert_entry_row.was
    (rw c.is_some.ensures at c.upsert_entry_row.ensures.calls)
    (changed g (goal.at.returns-clause-calls g c).After-change_number).0

pub returns-in_err-upsert_entry_row-clause-calls : goal.returns-in_err-upsert_entry_row-clause-calls
returns-in_err-upsert_entry_row-clause-calls g c =
    let zone = c.args.zone in
    let stood = c.args.number_before in
    let e = c.args.entry.now in
    runs_err g.S.Store ((if is_some stood then upsert_entry else insert_entry, entry_row zone e) ∷ [])
    (number_calls zone e.id (number_before stood) (number_of e)) c.args.tx.now.conn.now
    c.upsert_entry_row.new.tx.conn.now c.upsert_entry_row.result c.from_residual-in_err-upsert_entry_row.result (search rules)
    (follows_err c.upsert_entry_row.result _ _ c.in_err-upsert_entry_row.was c.from_residual-in_err-upsert_entry_row.ensures.1)
    (rw c.is_some.ensures at c.upsert_entry_row.ensures.calls)
