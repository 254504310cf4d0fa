use Rattle.std.proofs.Common.{◌≡◌, ◌∙◌, drop, sym, ap}
use Rattle.std.specs.Ordering.{is_eq}
use Rattle.std.proofs.lemmas.Bool.{true≢false}
use Rattle.terms.proofs.Orderings.{Equal_from_is_eq}
use Rattle.sorted.proofs.Moving.{starts, behind_tied, behind_all}
use Rattle.sorted.proofs.edits.remove_key.Given.{Over}
use Rattle.sorted.proofs.edits.remove_key.Goals.{After-eq}
use Rattle.sorted.proofs.edits.remove_key.Goals as goal

tested : (g : Over) (c : After-eq g)
    → c.eq.result ≡ is_eq (g.T.Key.Ord.cmp (g.T.Keyed.key_of c.in-Some.first.now) c.args.key)
tested g c =
    c.eq.ensures ∙ g.met.T.Key.Ord.matches_eq c.key.result c.args.key
    ∙ ap (λ x. is_eq (g.T.Key.Ord.cmp x c.args.key)) c.key.ensures

pub returns-then-eq-clause-rest : goal.returns-then-eq-clause-rest
returns-then-eq-clause-rest g c =
    let first = c.in-Some.first.now in
    let at = c.in-Some.ensures.item in
    let parts = starts c.args.rest.now.items first at.3.0 at.1 in
    let tie = Equal_from_is_eq (g.T.Key.Ord.cmp (g.T.Keyed.key_of first) c.args.key)
    (sym (tested g (goal.at.returns-then-eq-clause-rest g c).After-eq) ∙ c.if-eq.true) in
    rw parts (c.pop_front.ensures.rest ∙ sym (behind_tied g.met.T.Key.Ord.total g.T.Keyed.key_of c.args.key first
    (drop 1 c.args.rest.now.items) (rw parts at c.requires.rises) tie))

pub returns-else-eq-clause-rest : goal.returns-else-eq-clause-rest
returns-else-eq-clause-rest g c =
    let first = c.in-Some.first.now in
    let at = c.in-Some.ensures.item in
    let parts = starts c.args.rest.now.items first at.3.0 at.1 in
    rw parts (sym (behind_all g.met.T.Key.Ord.total g.T.Keyed.key_of c.args.key first (drop 1 c.args.rest.now.items)
    (rw parts at c.requires.rises) (rw parts at c.requires.none)
    (λ tie. true≢false (sym (tested g (goal.at.returns-else-eq-clause-rest g c).After-eq ∙ ap is_eq tie) ∙ c.if-eq.false))))
