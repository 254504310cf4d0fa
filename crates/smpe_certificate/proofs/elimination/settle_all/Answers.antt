use Rattle.std.proofs.Common.{◌≡◌, ◌≤◌, ◌+◌, arith}
use Rattle.smpe_certificate.proofs.Searching.{search_due, search_settled, same_length}
use Rattle.smpe_certificate.proofs.elimination.settle_all.Goals as goal

pub loop-place-preserved : goal.loop-place-preserved
loop-place-preserved c =
    let p = c.args.system.now in
    let i = c.loop-place.place in
    search_due p (λ k. (i ≤ k) × (k ≡ i → ⊥)) (λ k. i + 1 ≤ k) 0 c.settle.new.standing c.settle.new.dropped.items
    (λ k below h. omega (arith, h.0, h.1))
    (search_settled p (λ k. i ≤ k) 0 i c.loop-place.standing c.loop-place.dropped.items c.settle.new.standing
    c.settle.new.dropped.items c.in_ok-settle.ensures c.loop-place.invariant)

pub returns : goal.returns
returns c =
    let p = c.args.system.now in
    let long = same_length c.needs-needs.result.now p.needs c.needs-needs.ensures.needs in
    search_due p (λ k. c.loop-place.place ≤ k) (λ k. ⊥) 0 c.loop-place.standing c.loop-place.dropped.items
    (λ k below h. omega (arith, below, h, long, c.loop-place-test.false))
    c.loop-place.invariant
