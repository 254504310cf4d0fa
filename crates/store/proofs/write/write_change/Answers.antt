use Rattle.store_rows.proofs.InsideLemmas.{on_ok}
use Rattle.store.proofs.Committing.{zone_written, delta_written, edits_written}
use Rattle.store.proofs.write.write_change.Goals as goal

pub returns-in-NewZone-clause-ok : goal.returns-in-NewZone-clause-ok
returns-in-NewZone-clause-ok g c =
    let n = c.in-NewZone in
    rw n.is (on_ok c.insert_zone.result _ _
    (zone_written g.S.Store c.args.tx.now.conn.now c.insert_zone.new.tx.conn.now n.name n.kind n.srel n.related)
    c.insert_zone.ensures.stands)

pub returns-in-Zone-clause-ok : goal.returns-in-Zone-clause-ok
returns-in-Zone-clause-ok g c =
    let z = c.in-Zone in
    rw z.is (on_ok c.write_delta.result _ _
    (delta_written g.S.Store c.args.tx.now.conn.now c.write_delta.new.tx.conn.now z.name z.delta)
    c.write_delta.ensures.ok)

pub returns-in-Global-clause-ok : goal.returns-in-Global-clause-ok
returns-in-Global-clause-ok g c =
    let e = c.in-Global in
    rw e.is (on_ok c.write_edits.result _ _
    (λ changes. edits_written g.S.Store c.args.tx.now.conn.now c.write_edits.new.tx.conn.now e.stated e.edits
    (rw c.as_slice.ensures.value at changes)) c.write_edits.ensures.ok)
