use Rattle.std.proofs.Common.{◌∙◌, sym, ap, Some}
use Rattle.terms.proofs.RisingLists.{find_stands, find_parted}
use Rattle.sorted.proofs.table.Table.get.Goals as goal

pub returns-in-Ok : goal.returns-in-Ok
returns-in-Ok g c =
    let found = rw c.as_slice.ensures.value at c.in-Ok.ensures.found in
    let xs = c.self.inside.items.items in
    rw (← c.self.view_is) (ap Some (c.index.ensures ∙ found.1.1.at c.index.result.now)
    ∙ sym (find_stands g.met.T.Key.Ord.total g.T.Keyed.key_of g.T.Key.PartialEq.eq g.met.T.Key.Ord.matches_eq
    c.args.key xs c.in-Ok.place found.1.0 c.self.invariant found.1.1))

pub returns-in-Err : goal.returns-in-Err
returns-in-Err g c =
    let missing = rw c.as_slice.ensures.value at c.in-Err.ensures.missing in
    let xs = c.self.inside.items.items in
    rw (← c.self.view_is) (sym (find_parted g.met.T.Key.Ord.total g.T.Keyed.key_of g.T.Key.PartialEq.eq
    g.met.T.Key.Ord.matches_eq c.args.key xs c.in-Err.field-0 missing.1))
