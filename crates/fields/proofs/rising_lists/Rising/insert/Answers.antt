use Rattle.std.proofs.Common.{◌∙◌, refl, sym}
use Rattle.terms.proofs.RisingLists.{is_ok_search, Stands_at, searchable, with_item_same, with_item_at, Rises_at}
use Rattle.fields.proofs.rising_lists.Rising.insert.Goals as goal

pub returns-in-Ok-clause-added : goal.returns-in-Ok-clause-added
returns-in-Ok-clause-added g c =
    let within = rw c.deref.ensures.value at c.binary_search.ensures.bound in
    let position = rw c.deref.ensures.value at c.binary_search.ensures.position in
    let found = is_ok_search g.met.T.Ord.total (λ x. x) g.T.PartialEq.eq g.met.T.Ord.matches_eq c.args.item
    c.self.inside.items.items c.self.invariant c.binary_search.result within position in
    rw (← c.self.view_is, ← found, c.in-Ok.is) refl

pub returns-in-Ok-clause-ok : goal.returns-in-Ok-clause-ok
returns-in-Ok-clause-ok g c =
    let within = rw c.deref.ensures.value at c.in-Ok.ensures.bound in
    let equal = rw c.deref.ensures.value at c.in-Ok.ensures.ok in
    let xs = c.self.inside.items.items in
    let there = Stands_at g.met.T.Ord.total (λ x. x) c.args.item xs c.in-Ok.field-0 within equal in
    let here = rw (g.met.T.Field.exact there.0 c.args.item there.1.tie) at there.1 in
    rw (← c.self.view_is) (sym (with_item_same g.met.T.Ord.total (λ x. x) xs c.in-Ok.field-0 c.args.item
    c.self.invariant here))

pub invariant_of-self-in-Err : goal.invariant_of-self-in-Err
invariant_of-self-in-Err g c =
    let within = rw c.deref.ensures.value at c.in-Err.ensures.bound in
    let position = rw c.deref.ensures.value at c.in-Err.ensures.position in
    let xs = c.self.inside.items.items in
    let point = position (searchable g.met.T.Ord.total (λ x. x) c.args.item xs c.self.invariant) in
    rw c.in_ok-insert-in-Err.ensures.items (Rises_at g.met.T.Ord.total (λ x. x) xs c.in-Err.place c.args.item
    c.self.invariant within point)

pub returns-in_ok-insert-in-Err-clause-added : goal.returns-in_ok-insert-in-Err-clause-added
returns-in_ok-insert-in-Err-clause-added g c =
    let within = rw c.deref.ensures.value at c.binary_search.ensures.bound in
    let position = rw c.deref.ensures.value at c.binary_search.ensures.position in
    let found = is_ok_search g.met.T.Ord.total (λ x. x) g.T.PartialEq.eq g.met.T.Ord.matches_eq c.args.item
    c.self.inside.items.items c.self.invariant c.binary_search.result within position in
    rw (← c.self.view_is, ← found, c.in-Err.is) refl

pub returns-in_ok-insert-in-Err-clause-ok : goal.returns-in_ok-insert-in-Err-clause-ok
returns-in_ok-insert-in-Err-clause-ok g c =
    let within = rw c.deref.ensures.value at c.in-Err.ensures.bound in
    let position = rw c.deref.ensures.value at c.in-Err.ensures.position in
    let xs = c.self.inside.items.items in
    let point = position (searchable g.met.T.Ord.total (λ x. x) c.args.item xs c.self.invariant) in
    rw (← c.self.view_is) (c.in_ok-insert-in-Err.ensures.items
    ∙ sym (with_item_at g.met.T.Ord.total (λ x. x) xs c.in-Err.place c.args.item c.self.invariant within point))
