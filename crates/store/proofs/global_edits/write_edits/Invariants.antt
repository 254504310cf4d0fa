use Rattle.store_rows.specs.Inside.{Continues}
use Rattle.store.proofs.Waiting.{FirstGo}
use Rattle.store.proofs.global_edits.write_edits.Given as goal

abbrev pub invariant-loop-edit : goal.invariant-loop-edit
invariant-loop-edit g l = record {
  continues : Continues g.S.Store l.fn.tx l.tx;
  go : FirstGo g.S.Store l.stated l.edits l.edit-index l.fn.tx.conn.now l.tx.conn.now l.waiting;
}
