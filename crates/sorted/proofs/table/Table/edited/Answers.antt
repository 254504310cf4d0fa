use Rattle.std.proofs.Common.{◌∙◌, ap₂, subst, sym}
use Rattle.terms.specs.Rising.{Rises}
use Rattle.sorted.specs.Edits.{edited}
use Rattle.sorted.proofs.Editing.{Rises_edited}
use Rattle.sorted.proofs.table.Table.edited.Goals as goal

pub invariant_of-result : goal.invariant_of-result
invariant_of-result g c =
    let R = g.T.Key.Ord.cmp in
    let key = g.T.Keyed.key_of in
    subst (Rises R key) (sym (c.in_ok-items.ensures
    ∙ ap₂ (edited R key) c.as_slice.ensures.value c.as_slice-2.ensures.value))
    (Rises_edited g.met.T.Key.Ord.total key c.edits.inside.items.items c.self.inside.items.items c.self.invariant)

pub returns-clause-rising : goal.returns-clause-rising
returns-clause-rising g c = invariant_of-result g c
