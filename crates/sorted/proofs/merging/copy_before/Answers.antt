use Rattle.std.proofs.Common.{◌≡◌, ◌∙◌, ◌++◌, ◌∷◌, [], true, false, sym, ap, subst, append_assoc}
use Rattle.std.proofs.Common.{refl}
use Rattle.std.proofs.lemmas.List.{append-nil}
use Rattle.std.specs.declared.cmp.Ordering.{Ordering}
use Rattle.std.specs.declared.cmp.Ordering.TheVariants.{Less, Equal, Greater}
use Rattle.std.specs.Ordering.{is_lt, is_ge, is_some_and}
use Rattle.std.proofs.lemmas.Bool.{true≢false}
use Rattle.terms.specs.Rising.{Rises, before, behind}
use Rattle.terms.proofs.Pairs.{AllPairs_rest}
use Rattle.sorted.proofs.Moving.{none_before, moved_before, kept_behind}
use Rattle.sorted.proofs.merging.copy_before.Given.{Over}
use Rattle.sorted.proofs.merging.copy_before.Goals.{After-ge}
use Rattle.sorted.proofs.merging.copy_before.Goals as goal

not_less : (r : Ordering) → is_ge r ≡ true → is_lt r ≡ false
not_less Less ge = absurd (true≢false (sym ge))
not_less Equal ge = refl
not_less Greater ge = refl

less : (r : Ordering) → is_ge r ≡ false → is_lt r ≡ true
less Less ge = refl
less Equal ge = absurd (true≢false ge)
less Greater ge = absurd (true≢false ge)

tested : (g : Over) (c : After-ge g)
    → c.ge.result ≡ is_ge (g.T.Key.Ord.cmp (g.T.Keyed.key_of c.in-Some.first.now) c.args.key)
tested g c =
    c.ge.ensures ∙ ap (is_some_and is_ge) (g.met.T.Key.Ord.matches_partial_cmp c.key.result c.args.key)
    ∙ ap (λ x. is_ge (g.T.Key.Ord.cmp x c.args.key)) c.key.ensures

-- nothing is left before the key
ended : (g : Over) (c : After-ge g) → c.ge.result ≡ true
    → before g.T.Key.Ord.cmp g.T.Keyed.key_of c.args.key c.loop-first.rest.now ≡ []
ended g c ge =
    let R = g.T.Key.Ord.cmp in
    let key = g.T.Keyed.key_of in
    let parts = c.in-Some.ensures.cases.0 in
    let first = c.in-Some.first.now in
    ap (before R key c.args.key) parts
    ∙ none_before g.met.T.Key.Ord.total key c.args.key first c.in-Some.others.now
    (subst (Rises R key) parts c.loop-first.invariant.rises)
    (not_less (R (key first) c.args.key) (sym (tested g c) ∙ ge))

pub returns-then-ge-clause-copied : goal.returns-then-ge-clause-copied
returns-then-ge-clause-copied g c =
    let none = ended g (goal.at.returns-then-ge-clause-copied g c).After-ge c.if-ge.true in
    sym (ap (λ xs. c.loop-first.new.items ++ xs) none ∙ append-nil c.loop-first.new.items)
    ∙ c.loop-first.invariant.copied

pub returns-then-ge-clause-none : goal.returns-then-ge-clause-none
returns-then-ge-clause-none g c =
    ended g (goal.at.returns-then-ge-clause-none g c).After-ge c.if-ge.true

pub loop-first-preserved : goal.loop-first-preserved
loop-first-preserved g c =
    let R = g.T.Key.Ord.cmp in
    let key = g.T.Keyed.key_of in
    let k = c.args.key in
    let parts = c.in-Some.ensures.cases.0 in
    let first = c.in-Some.first.now in
    let others = c.in-Some.others.now in
    let new = c.loop-first.new.items in
    let inv = c.loop-first.invariant in
    let low = less (R (key first) k) (sym (tested g (goal.at.loop-first-preserved g c).After-ge) ∙ c.if-ge.false) in
    record {
      copied = ap (λ ys. ys ++ before R key k others)
          (c.in_ok-push.ensures.items ∙ ap (λ x. new ++ x ∷ []) c.in_ok-try_clone.ensures)
          ∙ append_assoc new (first ∷ []) (before R key k others)
          ∙ sym (ap (λ ys. new ++ ys) (ap (before R key k) parts ∙ moved_before g.met.T.Key.Ord.total key k first others
          low)) ∙ inv.copied;
      kept = sym (ap (behind R key k) parts ∙ kept_behind g.met.T.Key.Ord.total key k first others low) ∙ inv.kept;
      rises = AllPairs_rest (λ a b. is_lt (R (key a) (key b)) ≡ true) first others
          (subst (Rises R key) parts inv.rises);
    }
