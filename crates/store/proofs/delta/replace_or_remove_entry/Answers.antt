use Rattle.std.proofs.Common.{sym, subst}
use Rattle.sorted.specs.declared.edits.Edit.TheVariants.{Put, Remove}
use Rattle.terms.specs.Lookups.{entry_of}
use Rattle.store_rows.specs.Calls.{RunsInside}
use Rattle.store_rows.proofs.InsideLemmas.{on_ok}
use Rattle.store_zones.specs.Zones.{HasPutEntry, HasRemovedEntry}
use Rattle.store.specs.Calls.{entry_calls}
use Rattle.store.specs.Writes.{EditsOldEntry}
use Rattle.store.proofs.DeltaLemmas.{changes_as, entry_removed, old_entry_put}
use Rattle.store.proofs.delta.replace_or_remove_entry.Goals as goal

pub returns-in-Some-clause-ok : goal.returns-in-Some-clause-ok
returns-in-Some-clause-ok g c =
    let e = c.in-Put.entry in
    rw c.in-Put.is (on_ok c.upsert_entry.result _ _ (λ stands zone same.
    changes_as g.S.Store c.args.name c.args.tx.now.conn.now c.upsert_entry.new.tx.conn.now
    (HasPutEntry (entry_of zone e.id) e) (EditsOldEntry zone (Put e, c.args.number_before))
    (old_entry_put zone e c.args.number_before c.in-Some.is) (stands (entry_of zone e.id) same))
    c.upsert_entry.ensures.stands)

pub returns-in-Remove-clause-ok : goal.returns-in-Remove-clause-ok
returns-in-Remove-clause-ok g c =
    let id = c.in-Remove.id in
    rw c.in-Remove.is (on_ok c.remove_entry.result _ _ (λ stands zone same.
    changes_as g.S.Store c.args.name c.args.tx.now.conn.now c.remove_entry.new.tx.conn.now
    (HasRemovedEntry (entry_of zone id) id) (EditsOldEntry zone (Remove id, c.args.number_before)) (entry_removed zone
    id)
    (stands (entry_of zone id) same)) c.remove_entry.ensures.stands)

pub returns-in-Remove-clause-calls : goal.returns-in-Remove-clause-calls
returns-in-Remove-clause-calls g c =
    subst (λ d. RunsInside g.S.Store (entry_calls c.args.name (d, c.args.number_before)) c.args.tx.now.conn.now
    c.remove_entry.new.tx.conn.now c.remove_entry.result) (sym c.in-Remove.is) c.remove_entry.ensures.calls
