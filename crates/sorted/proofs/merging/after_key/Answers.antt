use Rattle.std.proofs.Common.{◌≡◌, ◌∙◌, sym, ap, subst}
use Rattle.std.specs.Ordering.{is_eq}
use Rattle.std.proofs.lemmas.Bool.{true≢false}
use Rattle.terms.specs.Rising.{Rises, before, behind}
use Rattle.terms.proofs.Orderings.{Equal_from_is_eq}
use Rattle.sorted.proofs.Moving.{behind_tied, behind_all}
use Rattle.sorted.proofs.merging.after_key.Given.{Over}
use Rattle.sorted.proofs.merging.after_key.Goals.{After-eq}
use Rattle.sorted.proofs.merging.after_key.Goals as goal

tested : (g : Over) (c : After-eq g)
    → c.eq.result ≡ is_eq (g.T.Key.Ord.cmp (g.T.Keyed.key_of c.in-Some.first.now) c.args.key)
tested g c =
    c.eq.ensures ∙ g.met.T.Key.Ord.matches_eq c.key.result c.args.key
    ∙ ap (λ x. is_eq (g.T.Key.Ord.cmp x c.args.key)) c.key.ensures

pub returns-then-eq : goal.returns-then-eq
returns-then-eq g c =
    let R = g.T.Key.Ord.cmp in
    let key = g.T.Keyed.key_of in
    let first = c.in-Some.first.now in
    let parts = c.in-Some.ensures.cases.0 in
    let tie = Equal_from_is_eq (R (key first) c.args.key)
    (sym (tested g (goal.at.returns-then-eq g c).After-eq) ∙ c.if-eq.true) in
    sym (ap (λ xs. behind R key c.args.key xs) parts
    ∙ behind_tied g.met.T.Key.Ord.total key c.args.key first c.in-Some.others.now
    (subst (Rises R key) parts c.requires.rises) tie)

pub returns-else-eq : goal.returns-else-eq
returns-else-eq g c =
    let R = g.T.Key.Ord.cmp in
    let key = g.T.Keyed.key_of in
    let first = c.in-Some.first.now in
    let parts = c.in-Some.ensures.cases.0 in
    parts ∙ sym (ap (λ xs. behind R key c.args.key xs) parts
    ∙ behind_all g.met.T.Key.Ord.total key c.args.key first c.in-Some.others.now
    (subst (Rises R key) parts c.requires.rises) (sym (ap (before R key c.args.key) parts) ∙ c.requires.none)
    (λ tie. true≢false (sym (tested g (goal.at.returns-else-eq g c).After-eq ∙ ap is_eq tie) ∙ c.if-eq.false)))
