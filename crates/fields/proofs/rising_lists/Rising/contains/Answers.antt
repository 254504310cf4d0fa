use Rattle.std.proofs.Common.{◌∙◌}
use Rattle.terms.proofs.RisingLists.{is_ok_search}
use Rattle.fields.proofs.rising_lists.Rising.contains.Goals as goal

pub returns : goal.returns
returns g c =
    let within = rw c.deref.ensures.value at c.binary_search.ensures.bound in
    let position = rw c.deref.ensures.value at c.binary_search.ensures.position in
    rw (← c.self.view_is) (c.is_ok.ensures.value ∙ is_ok_search g.met.T.Ord.total (λ x. x) g.T.PartialEq.eq
    g.met.T.Ord.matches_eq c.args.item c.self.inside.items.items c.self.invariant c.binary_search.result within
    position)
