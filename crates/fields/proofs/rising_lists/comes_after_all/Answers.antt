use Rattle.std.proofs.Common.{◌≡◌, ◌<◌, ◌-◌, ◌∙◌, sym, ap, length, arith}
use Rattle.std.specs.Ordering.{is_lt, is_some_and}
use Rattle.terms.proofs.RisingLists.{All-before_last}
use Rattle.terms.proofs.Orderings.{Less_from_is_lt}
use Rattle.fields.proofs.rising_lists.comes_after_all.Goals as goal

pub returns-in-Some : goal.returns-in-Some
returns-in-Some g c =
    let xs = c.args.items.now in
    let last = c.in-Some.last.now in
    let cmp = g.T.Ord.cmp in
    let at_end = c.in-Some.ensures.item in
    let some : 0 < length xs = at_end.3.0 in
    let tested : c.lt.result ≡ is_lt (cmp last c.args.item) =
    c.lt.ensures ∙ ap (is_some_and is_lt) (g.met.T.Ord.matches_partial_cmp last c.args.item) in (
      λ yes. All-before_last g.met.T.Ord.total (λ x. x) c.args.item xs last c.requires some at_end.1
          (Less_from_is_lt (cmp last c.args.item) (sym tested ∙ yes)),
      λ all. tested ∙ ap (λ x. is_lt (cmp x c.args.item)) at_end.1 ∙ all (length xs - 1) last (omega arith),
    )
