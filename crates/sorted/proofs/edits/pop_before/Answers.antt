use Rattle.std.proofs.Common.{◌≡◌, ◌∙◌, drop, refl, sym, ap, subst}
use Rattle.std.specs.Ordering.{is_lt, is_some_and}
use Rattle.terms.specs.Rising.{Rises, before}
use Rattle.sorted.proofs.Moving.{starts, none_before}
use Rattle.sorted.proofs.edits.pop_before.Goals as goal

pub returns-else-lt-clause-none : goal.returns-else-lt-clause-none
returns-else-lt-clause-none g c =
    let cmp = g.T.Key.Ord.cmp in
    let key = g.T.Keyed.key_of in
    let k = c.args.key in
    let xs = c.args.rest.now.items in
    let first = c.in_ok-front.field-0.now in
    let at = c.in_ok-front.ensures.item in
    let parts = starts xs first at.3.0 at.1 in
    let tested : c.lt.result ≡ is_lt (cmp (key first) k) =
    c.lt.ensures ∙ ap (is_some_and is_lt) (g.met.T.Key.Ord.matches_partial_cmp c.key.result k)
    ∙ ap (λ x. is_lt (cmp x k)) c.key.ensures in (
      refl,
      ap (before cmp key k) parts ∙ none_before g.met.T.Key.Ord.total key k first (drop 1 xs)
          (subst (Rises cmp key) parts c.requires) (sym tested ∙ c.if-lt.false),
    )
