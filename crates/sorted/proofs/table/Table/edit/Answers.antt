use Rattle.std.proofs.Common.{◌∙◌, ap, length, arith}
use Rattle.sorted.proofs.Editing.{Rises_edited}
use Rattle.sorted.proofs.table.Table.edit.Goals as goal

pub make_edits-requires-clause-room : goal.make_edits-requires-clause-room
make_edits-requires-clause-room g c =
    let items = c.self.inside.items.ok.0 in
    let edits = c.into_vec.result.ok.0 ∙ ap length c.into_vec.ensures.items in
    let seen = ap length c.self.view_is in
    let edits_are = ap (λ p. length p.edits) c.prepared.view_is in
    let room_is = ap (λ p. p.room) c.prepared.view_is in
    let room = c.requires in
    omega arith

pub invariant_of-self : goal.invariant_of-self
invariant_of-self g c =
    rw (c.make_edits.ensures, c.into_vec.ensures.items) (Rises_edited g.met.T.Key.Ord.total
    g.T.Keyed.key_of c.prepared.inside.edits c.self.inside.items.items c.self.invariant)

pub returns-clause-rising : goal.returns-clause-rising
returns-clause-rising g c = invariant_of-self g c
