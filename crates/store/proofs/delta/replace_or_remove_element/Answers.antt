use Rattle.std.proofs.Common.{false, refl, sym, subst}
use Rattle.sorted.specs.declared.edits.Edit.TheVariants.{Put, Remove}
use Rattle.terms.specs.Lookups.{element_of}
use Rattle.store_rows.specs.Calls.{RunsInside}
use Rattle.store_rows.proofs.InsideLemmas.{on_ok}
use Rattle.store_zones.specs.Zones.{HasPutElement, HasRemovedElement}
use Rattle.store.specs.Calls.{element_calls}
use Rattle.store.specs.Writes.{EditsOldElement}
use Rattle.store.proofs.DeltaLemmas.{changes_as, element_removed, old_element_put, unchanged}
use Rattle.store.proofs.delta.replace_or_remove_element.Goals as goal

pub returns-then-not-existed-clause-ok : goal.returns-then-not-existed-clause-ok
returns-then-not-existed-clause-ok g c zone same =
    rw (c.in-Put.is, c.if-not-existed.true) (unchanged g.S.Store c.args.name c.args.tx.now.conn.now
    (EditsOldElement zone (Put c.in-Put.element, false)) (λ was is h. h))

pub returns-then-not-existed-clause-calls : goal.returns-then-not-existed-clause-calls
returns-then-not-existed-clause-calls g c = rw (c.in-Put.is, c.if-not-existed.true) (λ clean inside. (refl, inside))

pub returns-else-not-existed-clause-ok : goal.returns-else-not-existed-clause-ok
returns-else-not-existed-clause-ok g c =
    let e = c.in-Put.element in
    rw c.in-Put.is (on_ok c.upsert_element.result _ _ (λ stands zone same.
    changes_as g.S.Store c.args.name c.args.tx.now.conn.now c.upsert_element.new.tx.conn.now
    (HasPutElement (element_of zone e.elem_type e.name) e) (EditsOldElement zone (Put e, c.args.existed))
    (old_element_put zone e c.args.existed c.if-not-existed.false) (stands (element_of zone e.elem_type e.name) same))
    c.upsert_element.ensures.stands)

pub returns-else-not-existed-clause-calls : goal.returns-else-not-existed-clause-calls
returns-else-not-existed-clause-calls g c =
    rw (c.in-Put.is, c.if-not-existed.false) (rw c.if-not-existed.false at c.upsert_element.ensures.calls)

pub returns-in-Remove-clause-ok : goal.returns-in-Remove-clause-ok
returns-in-Remove-clause-ok g c =
    let type = c.in-Remove.elem_type in
    let name = c.in-Remove.element in
    rw c.in-Remove.is (on_ok c.remove_element.result _ _ (λ stands zone same.
    changes_as g.S.Store c.args.name c.args.tx.now.conn.now c.remove_element.new.tx.conn.now
    (HasRemovedElement type name) (EditsOldElement zone (Remove (type, name), c.args.existed))
    (element_removed zone type name) stands) c.remove_element.ensures.stands)

pub returns-in-Remove-clause-calls : goal.returns-in-Remove-clause-calls
returns-in-Remove-clause-calls g c =
    subst (λ d. RunsInside g.S.Store (element_calls c.args.name (d, c.args.existed)) c.args.tx.now.conn.now
    c.remove_element.new.tx.conn.now c.remove_element.result) (sym c.in-Remove.is) c.remove_element.ensures.calls
