use Rattle.store_rows.specs.Inside.{Continues}
use Rattle.store_migration.specs.Moved.{with_moved}
use Rattle.store_migration.proofs.Moving.{Edited}
use Rattle.store_migration.proofs.sources.move_sources.Given as goal

abbrev pub invariant-loop-head : goal.invariant-loop-head
invariant-loop-head g l = record {
  continues : Continues g.S.Store l.fn.tx l.tx;
  edited : Edited g.S.Store (with_moved) l.heads l.head-index l.fn.tx.conn.now l.tx.conn.now;
}
