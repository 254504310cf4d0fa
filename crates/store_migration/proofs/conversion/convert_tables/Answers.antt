use Rattle.std.proofs.Common.{fold, arith}
use Rattle.sqlite.specs.Held.{state}
use Rattle.sqlite.specs.State.{HasCleanDisk}
use Rattle.store_rows.proofs.InsideLemmas.{on_ok}
use Rattle.store_migration.specs.Moved.{with_moved}
use Rattle.store_schema.proofs.UnderEach.{rows_under, stands_rows, stands_inventory}
use Rattle.store_migration.proofs.Taken.{made_under, stands_own, all_taken}
use Rattle.store_migration.proofs.conversion.convert_tables.Goals as goal

pub returns-clause-ok : goal.returns-clause-ok
returns-clause-ok g c clean =
    on_ok c.write_number.result _ _ (λ numbered i are stands.
    let s = g.S.Store in
    let r = c.args.schema in
    let db = (state s c.args.tx.now.conn.now).now in
    let t1 = state s c.add_tables.new.tx.conn.now in
    let t2 = state s c.move_sources.new.tx.conn.now in
    let before : HasCleanDisk t2 = omega (arith, clean, c.write_number.ensures.continues.inside.survives.clean) in
    let first : HasCleanDisk t1 = omega (arith, before, c.move_sources.ensures.continues.inside.survives.clean) in
    let made = c.in_ok-add_tables.ensures.ok (rows_under r i) first (stands_rows r i db stands) in
    let moved = c.in_ok-move_sources.ensures.ok before (made_under r i) made in
    all_taken r i c.args.heads.now (state s c.write_number.new.tx.conn.now).now are (stands_inventory r i db stands)
    (stands_own r i db stands) (numbered clean (fold with_moved (made_under r i) c.args.heads.now) moved))
    c.write_number.ensures.ok
