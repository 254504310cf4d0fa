use Rattle.std.proofs.Common.{[], ◌∷◌, take, drop}
use Rattle.store_rows.proofs.InsideLemmas.{on_ok}
use Rattle.store_schema.specs.Stands.{rows_of}
use Rattle.store_sysmods.specs.Calls.{remove_sysmod_calls}
use Rattle.store_sysmods.specs.Heads.{delete_sysmod}
use Rattle.store_sysmods.specs.Sysmods.{sysmod_key, sysmod_children, without_rows}
use Rattle.store_sysmods.proofs.Calling.{runs_rest}
use Rattle.store_sysmods.proofs.Calls.{all_removed}
use Rattle.store_sysmods.proofs.Steps.{Ran, step_ok, step_then, step_stops}
use Rattle.store_sysmods.proofs.SysmodLemmas.{sysmod_removed}
use Rattle.store_sysmods.proofs.sysmod_rows.remove_sysmod.Given.{Over}
use Rattle.store_sysmods.proofs.sysmod_rows.remove_sysmod.Goals.{After-remove_row}
use Rattle.store_sysmods.proofs.sysmod_rows.remove_sysmod.Goals as goal

-- the tables that refer to the one of SYSMODs
children : (g : Over) (c : After-remove_row g) → Ran g.S.Store (take 6 (remove_sysmod_calls c.args.id))
    (without_rows sysmod_children c.args.id) c.args.tx.now c.remove_rows-6.new.tx
children g c =
    let S = g.S.Store in
    step_then S (step_ok S c.in_ok-remove_rows.was c.remove_rows.ensures)
    (step_then S (step_ok S c.in_ok-remove_rows-2.was c.remove_rows-2.ensures)
    (step_then S (step_ok S c.in_ok-remove_rows-3.was c.remove_rows-3.ensures)
    (step_then S (step_ok S c.in_ok-remove_rows-4.was c.remove_rows-4.ensures)
    (step_then S (step_ok S c.in_ok-remove_rows-5.was c.remove_rows-5.ensures)
    (step_ok S c.in_ok-remove_rows-6.was c.remove_rows-6.ensures)))))

pub returns-clause-ok : goal.returns-clause-ok
returns-clause-ok g c =
    on_ok c.remove_row.result _ _ (λ removed.
    all_removed g.S.Store c.args.tx.now.conn.now c.remove_rows-6.new.tx.conn.now c.remove_row.new.tx.conn.now c.args.id
    c.remove_row.ensures.continues.inside (children g c).ok removed) c.remove_row.ensures.ok

pub returns-clause-stands : goal.returns-clause-stands
returns-clause-stands g c =
    on_ok c.remove_row.result _ _ (λ turned i fits clean held.
    sysmod_removed c.args.id i _ (turned clean (rows_of i) held)) (returns-clause-ok g c)

pub returns-clause-calls : goal.returns-clause-calls
returns-clause-calls g c =
    runs_rest g.S.Store (take 6 (remove_sysmod_calls c.args.id)) ((delete_sysmod, sysmod_key c.args.id) ∷ [])
    c.args.tx.now.conn.now c.remove_rows-6.new.tx.conn.now c.remove_row.new.tx.conn.now c.remove_row.result
    (children g c).continues.inside c.remove_row.ensures.continues.inside (children g c).runs c.remove_row.ensures.calls

pub returns-in_err-remove_rows-clause-calls : goal.returns-in_err-remove_rows-clause-calls
returns-in_err-remove_rows-clause-calls g c =
    let S = g.S.Store in
    let stops = step_stops S (drop 1 (remove_sysmod_calls c.args.id)) c.from_residual.result
    c.in_err-remove_rows.was c.from_residual.ensures.1 c.remove_rows.ensures in
    stops.runs

pub returns-in_err-remove_rows-2-clause-calls : goal.returns-in_err-remove_rows-2-clause-calls
returns-in_err-remove_rows-2-clause-calls g c =
    let S = g.S.Store in
    let stops = step_stops S (drop 2 (remove_sysmod_calls c.args.id)) c.from_residual-in_err-remove_rows-2.result
    c.in_err-remove_rows-2.was c.from_residual-in_err-remove_rows-2.ensures.1 c.remove_rows-2.ensures in
    (step_then S (step_ok S c.in_ok-remove_rows.was c.remove_rows.ensures)
    stops).runs

pub returns-in_err-remove_rows-3-clause-calls : goal.returns-in_err-remove_rows-3-clause-calls
returns-in_err-remove_rows-3-clause-calls g c =
    let S = g.S.Store in
    let stops = step_stops S (drop 3 (remove_sysmod_calls c.args.id)) c.from_residual-in_err-remove_rows-3.result
    c.in_err-remove_rows-3.was c.from_residual-in_err-remove_rows-3.ensures.1 c.remove_rows-3.ensures in
    (step_then S (step_ok S c.in_ok-remove_rows.was c.remove_rows.ensures)
    (step_then S (step_ok S c.in_ok-remove_rows-2.was c.remove_rows-2.ensures)
    stops)).runs

pub returns-in_err-remove_rows-4-clause-calls : goal.returns-in_err-remove_rows-4-clause-calls
returns-in_err-remove_rows-4-clause-calls g c =
    let S = g.S.Store in
    let stops = step_stops S (drop 4 (remove_sysmod_calls c.args.id)) c.from_residual-in_err-remove_rows-4.result
    c.in_err-remove_rows-4.was c.from_residual-in_err-remove_rows-4.ensures.1 c.remove_rows-4.ensures in
    (step_then S (step_ok S c.in_ok-remove_rows.was c.remove_rows.ensures)
    (step_then S (step_ok S c.in_ok-remove_rows-2.was c.remove_rows-2.ensures)
    (step_then S (step_ok S c.in_ok-remove_rows-3.was c.remove_rows-3.ensures)
    stops))).runs

pub returns-in_err-remove_rows-5-clause-calls : goal.returns-in_err-remove_rows-5-clause-calls
returns-in_err-remove_rows-5-clause-calls g c =
    let S = g.S.Store in
    let stops = step_stops S (drop 5 (remove_sysmod_calls c.args.id)) c.from_residual-in_err-remove_rows-5.result
    c.in_err-remove_rows-5.was c.from_residual-in_err-remove_rows-5.ensures.1 c.remove_rows-5.ensures in
    (step_then S (step_ok S c.in_ok-remove_rows.was c.remove_rows.ensures)
    (step_then S (step_ok S c.in_ok-remove_rows-2.was c.remove_rows-2.ensures)
    (step_then S (step_ok S c.in_ok-remove_rows-3.was c.remove_rows-3.ensures)
    (step_then S (step_ok S c.in_ok-remove_rows-4.was c.remove_rows-4.ensures)
    stops)))).runs

pub returns-in_err-remove_rows-6-clause-calls : goal.returns-in_err-remove_rows-6-clause-calls
returns-in_err-remove_rows-6-clause-calls g c =
    let S = g.S.Store in
    let stops = step_stops S (drop 6 (remove_sysmod_calls c.args.id)) c.from_residual-in_err-remove_rows-6.result
    c.in_err-remove_rows-6.was c.from_residual-in_err-remove_rows-6.ensures.1 c.remove_rows-6.ensures in
    (step_then S (step_ok S c.in_ok-remove_rows.was c.remove_rows.ensures)
    (step_then S (step_ok S c.in_ok-remove_rows-2.was c.remove_rows-2.ensures)
    (step_then S (step_ok S c.in_ok-remove_rows-3.was c.remove_rows-3.ensures)
    (step_then S (step_ok S c.in_ok-remove_rows-4.was c.remove_rows-4.ensures)
    (step_then S (step_ok S c.in_ok-remove_rows-5.was c.remove_rows-5.ensures)
    stops))))).runs
