use Rattle.std.proofs.Common.{◌+◌, ◌-◌, drop, map, take, arith, ap, subst, ◌∙◌}
use Rattle.store_rows.specs.Calls.{puts}
use Rattle.store_rows.specs.Rows.{as_bound}
use Rattle.store_rows.proofs.Putting.{Added, GoesOn}
use Rattle.store_zones.specs.Held.{in_zone}
use Rattle.store_zones.proofs.Runs.{all_go, none_behind, none_goes, part_long, rows_part, run_goes}
use Rattle.store_zones.proofs.items.insert_items.Given.{Over}
use Rattle.store_zones.proofs.items.insert_items.Goals.{After-insert_rows}
use Rattle.store_zones.proofs.items.insert_items.Goals as goal

goes : (g : Over) (c : After-insert_rows g)
    → let row = in_zone g.T.Rows.FromRow.row_of c.args.zone.now in
    let all = map row (map (λ x. x.now) c.args.items.now) in
    let more = map row (map (λ x. x.now) (drop (c.loop-done.done + c.min.result) c.args.items.now)) in
    GoesOn g.S.Store c.args.many_sql.now c.args.one_sql.now (puts c.args.many_sql.now c.args.one_sql.now all) all
    c.args.tx.now
    (puts c.args.many_sql.now c.args.one_sql.now more) more c.insert_rows.new.tx c.insert_rows.result
goes g c =
    let s = g.S.Store in
    let some = c.args.many_sql.now in
    let one = c.args.one_sql.now in
    let items = c.args.items.now in
    let done = c.loop-done.done in
    let n = c.min.result in
    let row = in_zone g.T.Rows.FromRow.row_of c.args.zone.now in
    let bound = ap (map as_bound) c.as_slice.ensures.value ∙ c.in_ok-rows.ensures in
    run_goes s some one (map row (map (λ x. x.now) (drop done items)))
    (map row (map (λ x. x.now) (take (done + n - done) (drop done items))))
    (map row (map (λ x. x.now) (drop (done + n) items)))
    (rows_part (λ x. x.now) row items done (done + n) (omega arith))
    (part_long (λ x. x.now) row items done n c.min.ensures) c.loop-done.invariant.leaves
    (subst (λ rows. Added s some one (puts some one rows) rows c.loop-done.tx c.insert_rows.new.tx c.insert_rows.result)
    bound (record {
      continues = c.insert_rows.ensures.continues;
      runs = c.insert_rows.ensures.calls;
      ok = c.insert_rows.ensures.ok;
    }))

pub loop-done-init : goal.loop-done-init
loop-done-init g c = record { within = omega arith; leaves = λ new r it. it }

pub loop-done-preserved : goal.loop-done-preserved
loop-done-preserved g c = record {
  within = omega (arith, c.min.ensures);
  leaves = (goes g (goal.at.loop-done-preserved g c).After-insert_rows).ran _ c.in_ok-insert_rows.was;
}

pub returns-in_err-rows : goal.returns-in_err-rows
returns-in_err-rows g c =
    let row = in_zone g.T.Rows.FromRow.row_of c.args.zone.now in
    let left = map row (map (λ x. x.now) (drop c.loop-done.done c.args.items.now)) in
    let it = none_goes g.S.Store c.args.many_sql.now c.args.one_sql.now left c.from_residual.result
    c.from_residual.ensures.1
    c.loop-done.invariant.leaves in
    record { continues = it.continues; calls = it.runs; ok = it.ok }

pub returns-in_err-insert_rows : goal.returns-in_err-insert_rows
returns-in_err-insert_rows g c =
    let it = (goes g (goal.at.returns-in_err-insert_rows g c).After-insert_rows).failed _
    c.from_residual-in_err-insert_rows.result c.in_err-insert_rows.was c.from_residual-in_err-insert_rows.ensures.1 in
    record { continues = it.continues; calls = it.runs; ok = it.ok }

pub returns : goal.returns
returns g c =
    let row = in_zone g.T.Rows.FromRow.row_of c.args.zone.now in
    let left = map row (map (λ x. x.now) (drop c.loop-done.done c.args.items.now)) in
    let it = all_go g.S.Store c.args.many_sql.now c.args.one_sql.now left
    (none_behind (λ x. x.now) row c.args.items.now c.loop-done.done c.loop-done-test.false)
    c.loop-done.invariant.leaves in
    record { continues = it.continues; calls = it.runs; ok = it.ok }
