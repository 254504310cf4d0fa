use Rattle.std.proofs.Common.{◌∙◌, refl, sym}
use Rattle.terms.proofs.RisingLists.{is_ok_search, Stands_at, searchable, without_key_there, without_key_at}
use Rattle.fields.proofs.rising_lists.Rising.remove.Goals as goal

pub returns-in-Ok-clause-after : goal.returns-in-Ok-clause-after
returns-in-Ok-clause-after g c =
    let within = rw c.deref.ensures.value at c.in-Ok.ensures.bound in
    let equal = rw c.deref.ensures.value at c.in-Ok.ensures.ok in
    let xs = c.self.inside.items.items in
    let there = Stands_at g.met.T.Ord.total (λ x. x) c.args.item xs c.in-Ok.place within equal in
    rw (← c.self.view_is) (c.remove.ensures.items ∙ sym (without_key_there g.met.T.Ord.total (λ x. x) c.args.item xs
    c.in-Ok.place there.0 c.self.invariant there.1))

pub returns-in-Err-clause-found : goal.returns-in-Err-clause-found
returns-in-Err-clause-found g c =
    let within = rw c.deref.ensures.value at c.binary_search.ensures.bound in
    let position = rw c.deref.ensures.value at c.binary_search.ensures.position in
    let found = is_ok_search g.met.T.Ord.total (λ x. x) g.T.PartialEq.eq g.met.T.Ord.matches_eq c.args.item
    c.self.inside.items.items c.self.invariant c.binary_search.result within position in
    rw (← c.self.view_is, ← found, c.in-Err.is) refl

pub returns-in-Err-clause-after : goal.returns-in-Err-clause-after
returns-in-Err-clause-after g c =
    let within = rw c.deref.ensures.value at c.in-Err.ensures.bound in
    let position = rw c.deref.ensures.value at c.in-Err.ensures.position in
    let xs = c.self.inside.items.items in
    let point = position (searchable g.met.T.Ord.total (λ x. x) c.args.item xs c.self.invariant) in
    rw (← c.self.view_is) (sym (without_key_at g.met.T.Ord.total (λ x. x) c.args.item xs c.in-Err.field-0 within point))
