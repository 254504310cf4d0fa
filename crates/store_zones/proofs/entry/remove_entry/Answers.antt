use Rattle.std.proofs.Common.{[], ◌∷◌, refl, rules}
use Rattle.store_rows.specs.Rows.{HasContents, in_table, without}
use Rattle.store_rows.proofs.CallLemmas.{runs_then, runs_err, follows_err}
use Rattle.store_rows.proofs.InsideLemmas.{on_ok, turns_then}
use Rattle.store_schema.specs.Stands.{rows_of}
use Rattle.store_schema.specs.Tables.{store_schema, entry, chosen}
use Rattle.store_zones.specs.Calls.{number_calls}
use Rattle.store_zones.specs.Entries.{delete_entry, entry_key}
use Rattle.store_zones.specs.Chosen.{number_before}
use Rattle.store_zones.specs.Zones.{numbered}
use Rattle.store_zones.proofs.ByNumber.{Renumbers, renumbers_as}
use Rattle.store_zones.proofs.ZoneLemmas.{entry_removed}
use Rattle.store_zones.proofs.entry.remove_entry.Given.{Over}
use Rattle.store_zones.proofs.entry.remove_entry.Goals.{After-change_number}
use Rattle.store_zones.proofs.entry.remove_entry.Goals as goal

changed : (g : Over) (c : After-change_number g) → Renumbers g.S.Store c.remove_entry_row.new.tx.conn.now
    c.change_number.new.tx.conn.now c.change_number.result c.args.zone c.args.id
    (number_before c.args.number_before) 1
changed g c =
    renumbers_as g.S.Store c.remove_entry_row.new.tx.conn.now c.change_number.new.tx.conn.now c.change_number.result
    c.args.zone _ c.args.id _ (number_before c.args.number_before) _ 1 refl c.number_or_first.ensures refl
    (c.change_number.ensures.calls, c.change_number.ensures.ok)

pub returns-clause-ok : goal.returns-clause-ok
returns-clause-ok g c =
    let zone = c.args.zone in
    let id = c.args.id in
    on_ok c.change_number.result _ _
    (turns_then g.S.Store c.args.tx.now.conn.now c.remove_entry_row.new.tx.conn.now c.change_number.new.tx.conn.now
    (HasContents store_schema) (in_table entry (without (entry_key zone id)))
    (in_table chosen (numbered zone id (number_before c.args.number_before) 1))
    c.change_number.ensures.continues.inside c.in_ok-remove_entry_row.ensures.ok)
    (changed g (goal.at.returns-clause-ok g c).After-change_number).1

pub returns-clause-stands : goal.returns-clause-stands
returns-clause-stands g c =
    on_ok c.change_number.result _ _ (λ turned old same i j was is change removed clean held.
    entry_removed i j c.args.zone was is change old c.args.number_before c.args.id _ same removed
    (turned clean (rows_of i) held)) (returns-clause-ok g c)

pub returns-clause-calls : goal.returns-clause-calls
returns-clause-calls g c =
    let zone = c.args.zone in
    let id = c.args.id in
    runs_then g.S.Store ((delete_entry, entry_key zone id) ∷ [])
    (number_calls zone id (number_before c.args.number_before) 1) c.args.tx.now.conn.now
    c.remove_entry_row.new.tx.conn.now c.change_number.new.tx.conn.now c.remove_entry_row.result (tt {0})
    c.change_number.result
    c.remove_entry_row.ensures.continues.inside c.change_number.ensures.continues.inside c.in_ok-remove_entry_row.was
    c.remove_entry_row.ensures.calls
    (changed g (goal.at.returns-clause-calls g c).After-change_number).0

pub returns-in_err-remove_entry_row-clause-calls : goal.returns-in_err-remove_entry_row-clause-calls
returns-in_err-remove_entry_row-clause-calls g c =
    let zone = c.args.zone in
    let id = c.args.id in
    runs_err g.S.Store ((delete_entry, entry_key zone id) ∷ [])
    (number_calls zone id (number_before c.args.number_before) 1) c.args.tx.now.conn.now
    c.remove_entry_row.new.tx.conn.now c.remove_entry_row.result c.from_residual.result (search rules)
    (follows_err c.remove_entry_row.result _ _ c.in_err-remove_entry_row.was c.from_residual.ensures.1)
    c.remove_entry_row.ensures.calls
