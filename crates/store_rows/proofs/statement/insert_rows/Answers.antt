use Rattle.std.proofs.Common.{◌≡◌, map, length, arith, subst, ◌∙◌}
use Rattle.std.proofs.lemmas.List.{length-map}
use Rattle.store_rows.specs.Calls.{puts}
use Rattle.store_rows.specs.Rows.{as_bound}
use Rattle.store_rows.proofs.Putting.{Leaves, puts_few, run_put, row_put, all_put}
use Rattle.store_rows.proofs.statement.insert_rows.Goals as goal

pub returns-in_err-insert_by_one_statement : goal.returns-in_err-insert_by_one_statement
returns-in_err-insert_by_one_statement g c =
    let part = c.split_at in
    let call = c.insert_by_one_statement in
    let it = (run_put g.S.Store c.args.many_sql.now c.args.one_sql.now c.args.tx.now c.loop-rest.tx call.new.tx
    call.result
    c.loop-rest.rest.now part.result.0.now part.result.1.now part.ensures.by_index.0 call.ensures.continues
    part.ensures.front_len call.ensures.calls call.ensures.ok c.loop-rest.invariant).failed _
    c.from_residual.result c.in_err-insert_by_one_statement.was c.from_residual.ensures.1 in
    record { continues = it.continues; calls = it.runs; ok = it.ok }

pub loop-rest-preserved : goal.loop-rest-preserved
loop-rest-preserved g c =
    let part = c.split_at in
    let call = c.insert_by_one_statement in
    (run_put g.S.Store c.args.many_sql.now c.args.one_sql.now c.args.tx.now c.loop-rest.tx call.new.tx call.result
    c.loop-rest.rest.now part.result.0.now part.result.1.now part.ensures.by_index.0 call.ensures.continues
    part.ensures.front_len call.ensures.calls call.ensures.ok c.loop-rest.invariant).ran _
    c.in_ok-insert_by_one_statement.was

pub loop-rest-2-init : goal.loop-rest-2-init
loop-rest-2-init g c =
    let some = c.args.many_sql.now in
    let one = c.args.one_sql.now in
    let all = map as_bound c.args.rows.now in
    let left = map as_bound c.loop-rest.rest.now in
    subst (λ calls. Leaves g.S.Store some one (puts some one all) all c.args.tx.now calls left c.loop-rest.tx)
    (puts_few some one left (omega (arith, length-map c.loop-rest.rest.now as_bound, c.loop-rest-test.false)))
    c.loop-rest.invariant

pub returns-in_err-insert_by_one_statement-2 : goal.returns-in_err-insert_by_one_statement-2
returns-in_err-insert_by_one_statement-2 g c =
    let part = c.split_at-in-loop-rest-2 in
    let call = c.insert_by_one_statement-in-loop-rest-2 in
    let it = (row_put g.S.Store c.args.many_sql.now c.args.one_sql.now c.args.tx.now c.loop-rest-2.tx call.new.tx
    call.result
    c.loop-rest-2.rest.now part.result.0.now part.result.1.now part.ensures.by_index.0 call.ensures.continues
    part.ensures.front_len call.ensures.calls call.ensures.ok c.loop-rest-2.invariant).failed _
    c.from_residual-in_err-insert_by_one_statement-2.result c.in_err-insert_by_one_statement-2.was
    c.from_residual-in_err-insert_by_one_statement-2.ensures.1 in
    record { continues = it.continues; calls = it.runs; ok = it.ok }

pub loop-rest-2-preserved : goal.loop-rest-2-preserved
loop-rest-2-preserved g c =
    let part = c.split_at-in-loop-rest-2 in
    let call = c.insert_by_one_statement-in-loop-rest-2 in
    (row_put g.S.Store c.args.many_sql.now c.args.one_sql.now c.args.tx.now c.loop-rest-2.tx call.new.tx call.result
    c.loop-rest-2.rest.now part.result.0.now part.result.1.now part.ensures.by_index.0 call.ensures.continues
    part.ensures.front_len call.ensures.calls call.ensures.ok c.loop-rest-2.invariant).ran _
    c.in_ok-insert_by_one_statement-2.was

pub returns : goal.returns
returns g c =
    let some = c.args.many_sql.now in
    let one = c.args.one_sql.now in
    let all = map as_bound c.args.rows.now in
    let none : length c.loop-rest-2.rest.now ≡ 0 = grind arith in
    let it = all_put g.S.Store some one (puts some one all) all c.args.tx.now c.loop-rest-2.tx
    (map as_bound c.loop-rest-2.rest.now) (length-map c.loop-rest-2.rest.now _ ∙ none) c.loop-rest-2.invariant in
    record { continues = it.continues; calls = it.runs; ok = it.ok }
