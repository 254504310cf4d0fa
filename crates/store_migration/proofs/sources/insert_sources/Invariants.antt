use Rattle.store_rows.specs.Inside.{Continues}
use Rattle.store_migration.specs.Moved.{with_source}
use Rattle.store_migration.proofs.Moving.{Edited}
use Rattle.store_migration.proofs.sources.insert_sources.Given as goal

abbrev pub invariant-loop-source : goal.invariant-loop-source
invariant-loop-source g l = record {
  continues : Continues g.S.Store l.fn.tx l.tx;
  edited : Edited g.S.Store (with_source l.id) l.sources l.source-index l.fn.tx.conn.now l.tx.conn.now;
}
