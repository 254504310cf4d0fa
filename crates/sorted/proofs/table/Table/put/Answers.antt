use Rattle.std.proofs.Common.{◌∙◌, sym}
use Rattle.terms.proofs.RisingLists.{with_item_set, Rises_set, with_item_parted, Rises_parted}
use Rattle.sorted.proofs.table.Table.put.Goals as goal

pub invariant_of-self : goal.invariant_of-self
invariant_of-self g c =
    let found = rw (c.as_slice.ensures.value, c.key.ensures) at c.in-Ok.ensures.found in
    Rises_set g.met.T.Key.Ord.total g.T.Keyed.key_of c.self.inside.items.items c.in-Ok.place found.1.0 c.args.item
    c.self.invariant found.0 found.1.1

pub invariant_of-self-in-Err : goal.invariant_of-self-in-Err
invariant_of-self-in-Err g c =
    let missing = rw (c.as_slice.ensures.value, c.key.ensures) at c.in-Err.ensures.missing in
    rw c.in_ok-insert-in-Err.ensures.items (Rises_parted g.met.T.Key.Ord.total g.T.Keyed.key_of
    c.self.inside.items.items c.in-Err.place c.args.item c.self.invariant missing.1)

pub returns-in-Ok-clause-ok : goal.returns-in-Ok-clause-ok
returns-in-Ok-clause-ok g c =
    let found = rw (c.as_slice.ensures.value, c.key.ensures) at c.in-Ok.ensures.found in
    rw (← c.self.view_is) (sym (with_item_set g.met.T.Key.Ord.total g.T.Keyed.key_of c.self.inside.items.items
    c.in-Ok.place found.1.0 c.args.item c.self.invariant found.0 found.1.1))

pub returns-in_ok-insert-in-Err-clause-ok : goal.returns-in_ok-insert-in-Err-clause-ok
returns-in_ok-insert-in-Err-clause-ok g c =
    let missing = rw (c.as_slice.ensures.value, c.key.ensures) at c.in-Err.ensures.missing in
    rw (← c.self.view_is) (c.in_ok-insert-in-Err.ensures.items
    ∙ sym (with_item_parted g.met.T.Key.Ord.total g.T.Keyed.key_of c.self.inside.items.items c.in-Err.place
    c.args.item missing.1))

pub returns-in-Ok-clause-rising : goal.returns-in-Ok-clause-rising
returns-in-Ok-clause-rising g c = invariant_of-self g c

pub returns-in_ok-insert-in-Err-clause-rising : goal.returns-in_ok-insert-in-Err-clause-rising
returns-in_ok-insert-in-Err-clause-rising g c = invariant_of-self-in-Err g c
