use Rattle.std.proofs.Common.{arith}
use Rattle.store_rows.proofs.InsideLemmas.{continues_then}
use Rattle.store_sysmods.proofs.Steps.{step_ok}
use Rattle.store_migration.specs.Moved.{with_source}
use Rattle.store_migration.proofs.Moving.{edited_more, edited_all}
use Rattle.store_migration.proofs.sources.insert_sources.Goals as goal

pub loop-source-preserved : goal.loop-source-preserved
loop-source-preserved g c =
    let old = c.args.tx.now.conn.now in
    let mid = c.loop-source.tx.conn.now in
    let new = c.insert_source.new.tx.conn.now in
    record {
      continues = continues_then g.S.Store c.args.tx.now c.loop-source.tx c.insert_source.new.tx
          c.loop-source.invariant.continues
          c.insert_source.ensures.continues;
      edited = edited_more g.S.Store (with_source c.args.id.now) c.args.sources.now c.loop-source.source-index
          c.source-item.result old mid new
          (omega arith) c.source-item.is c.insert_source.ensures.continues.inside c.loop-source.invariant.edited
          (step_ok g.S.Store c.in_ok-insert_source.was c.insert_source.ensures).ok;
    }

pub returns-clause-ok : goal.returns-clause-ok
returns-clause-ok g c =
    edited_all g.S.Store (with_source c.args.id.now) c.args.sources.now c.loop-source.source-index
    c.args.tx.now.conn.now
    c.loop-source.tx.conn.now (omega (arith, c.loop-source-test.false)) c.loop-source.invariant.edited
