use Rattle.std.proofs.Common.{◌≡◌, ◌<◌, ◌-◌, ◌∙◌, sym, ap, length, arith}
use Rattle.std.specs.Ordering.{is_lt, is_some_and}
use Rattle.terms.proofs.RisingLists.{All-before_last}
use Rattle.terms.proofs.Orderings.{Less_from_is_lt}
use Rattle.sorted.proofs.keyed.comes_after_all.Goals as goal

pub returns-in-Some : goal.returns-in-Some
returns-in-Some g c =
    let xs = c.args.items.now in
    let last = c.in-Some.last.now in
    let cmp = g.T.Key.Ord.cmp in
    let key = g.T.Keyed.key_of in
    let at_end = c.in-Some.ensures.item in
    let some : 0 < length xs = at_end.3.0 in
    let tested : c.lt.result ≡ is_lt (cmp (key last) c.args.key) =
    c.lt.ensures ∙ ap (is_some_and is_lt) (g.met.T.Key.Ord.matches_partial_cmp c.key.result c.args.key)
    ∙ ap (λ k. is_lt (cmp k c.args.key)) c.key.ensures in (
      λ yes. All-before_last g.met.T.Key.Ord.total key c.args.key xs last c.requires some at_end.1
          (Less_from_is_lt (cmp (key last) c.args.key) (sym tested ∙ yes)),
      λ all. tested ∙ ap (λ x. is_lt (cmp (key x) c.args.key)) at_end.1 ∙ all (length xs - 1) last (omega arith),
    )
