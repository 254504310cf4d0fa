use Rattle.std.proofs.Common.{arith}
use Rattle.store_rows.proofs.InsideLemmas.{continues_then}
use Rattle.store_migration.specs.Moved.{with_moved}
use Rattle.store_migration.proofs.Moving.{edited_more, edited_all}
use Rattle.store_migration.proofs.sources.move_sources.Goals as goal

pub loop-head-preserved : goal.loop-head-preserved
loop-head-preserved g c =
    let old = c.args.tx.now.conn.now in
    let mid = c.loop-head.tx.conn.now in
    let new = c.move_sources_of.new.tx.conn.now in
    record {
      continues = continues_then g.S.Store c.args.tx.now c.loop-head.tx c.move_sources_of.new.tx
          c.loop-head.invariant.continues
          c.move_sources_of.ensures.continues;
      edited = edited_more g.S.Store (with_moved) c.args.heads.now c.loop-head.head-index c.head-item.result old mid new
          (omega arith) c.head-item.is c.move_sources_of.ensures.continues.inside c.loop-head.invariant.edited
          c.in_ok-move_sources_of.ensures.ok;
    }

pub returns-clause-ok : goal.returns-clause-ok
returns-clause-ok g c =
    edited_all g.S.Store (with_moved) c.args.heads.now c.loop-head.head-index c.args.tx.now.conn.now
    c.loop-head.tx.conn.now (omega (arith, c.loop-head-test.false)) c.loop-head.invariant.edited
