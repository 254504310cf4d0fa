use Rattle.std.proofs.Common.{◌≡◌, ◌+◌, drop, get_or, arith}
use Rattle.std.specs.List.{Contains}
use Rattle.std.proofs.lemmas.List as lists
use Rattle.smpe_certificate.proofs.Searching.{search_due, search_settled, rest_due}
use Rattle.smpe_certificate.proofs.elimination.settle_row.Goals as goal

pub loop-place-preserved : goal.loop-place-preserved
loop-place-preserved c =
    let p = c.args.system.now in
    let row = c.args.row.now in
    let i = c.loop-place.place-index in
    let x = get_or row i 0 in
    record {
      size = omega (arith, c.settle.auto.standing, c.loop-place.invariant.size);
      settled = λ followed start. search_due p (λ k. Contains (drop i row) k × (k ≡ x → ⊥))
          (Contains (drop (i + 1) row)) followed c.settle.new.standing c.settle.new.dropped.items
          (λ k below h. rest_due row i k c.loop-place-test.true h)
          (search_settled p (Contains (drop i row)) followed x c.loop-place.standing c.loop-place.dropped.items
          c.settle.new.standing c.settle.new.dropped.items c.in_ok-settle.ensures
          (c.loop-place.invariant.settled followed start));
    }

pub returns-clause-settled : goal.returns-clause-settled
returns-clause-settled c followed start =
    let p = c.args.system.now in
    let row = c.args.row.now in
    let i = c.loop-place.place-index in
    search_due p (Contains (drop i row)) (λ k. ⊥) followed c.loop-place.standing c.loop-place.dropped.items
    (λ k below h. omega (arith, (rw (lists.drop_all i row c.loop-place-test.false) at h).1))
    (c.loop-place.invariant.settled followed start)
