use Rattle.std.proofs.Common.{◌≡◌, ◌∙◌, ◌++◌, ◌∷◌, [], true, sym, ap, subst, append_assoc, arith}
use Rattle.std.specs.Ordering.{is_lt}
use Rattle.terms.specs.Rising.{Rises, before, behind}
use Rattle.terms.proofs.Pairs.{AllPairs_rest}
use Rattle.sorted.proofs.Moving.{moved_before, kept_behind}
use Rattle.sorted.proofs.edits.move_before.Goals as goal

pub loop-item-preserved : goal.loop-item-preserved
loop-item-preserved g c =
    let cmp = g.T.Key.Ord.cmp in
    let key = g.T.Keyed.key_of in
    let k = c.args.key in
    let x = c.in-Some.item in
    let new = c.loop-item.new.items in
    let rest = c.pop_before.new.rest.items in
    let some = c.in-Some.ensures.some in
    let inv = c.loop-item.invariant in
    record {
      moved = ap (λ ys. ys ++ before cmp key k rest) c.push_reserved.ensures.items
          ∙ append_assoc new (x ∷ []) (before cmp key k rest)
          ∙ sym (ap (λ ys. new ++ ys) (ap (before cmp key k) some.0 ∙ moved_before g.met.T.Key.Ord.total key k x rest
          some.1)) ∙ inv.moved;
      kept = sym (ap (behind cmp key k) some.0 ∙ kept_behind g.met.T.Key.Ord.total key k x rest some.1) ∙ inv.kept;
      rises = AllPairs_rest (λ a b. is_lt (cmp (key a) (key b)) ≡ true) x rest (subst (Rises cmp key) some.0 inv.rises);
      len = let gone = c.in-Some.ensures.len in
          let grown = c.push_reserved.ensures.len in
          let was = inv.len in
          omega arith;
      capacity = c.push_reserved.ensures.capacity ∙ inv.capacity;
    }

pub push_reserved-requires : goal.push_reserved-requires
push_reserved-requires g c =
    let gone = c.in-Some.ensures.len in
    let at = c.loop-item.invariant in
    let len = at.len in
    let capacity = at.capacity in
    let room = c.requires.room in
    omega arith
