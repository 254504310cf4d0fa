use Rattle.std.proofs.Common.{◌≡◌, ◌<◌, ◌+◌, length, get_or, arith}
use Rattle.smpe_certificate.specs.Drops.{candidates_of}
use Rattle.smpe_certificate.proofs.Searching.{dropped_below, search_followed, search_end}
use Rattle.smpe_certificate.proofs.elimination.follow_drops.Goals as goal

pub row_of-requires : goal.row_of-requires
row_of-requires c =
    let p = c.args.system.now in
    let dropped = c.loop-followed.dropped.items in
    let below : c.loop-followed.followed < length dropped = omega arith in
    let small = dropped_below p (λ k. ⊥) c.loop-followed.followed c.loop-followed.standing dropped
    c.loop-followed.followed below c.loop-followed.invariant in
    let next : c.candidate_at-candidate.result ≡ get_or (candidates_of dropped) c.loop-followed.followed 0 =
    rw c.deref.ensures.value at c.candidate_at-candidate.ensures in
    omega (arith, small, next, c.in_ok-served.ensures.size)

pub loop-followed-preserved : goal.loop-followed-preserved
loop-followed-preserved c =
    let p = c.args.system.now in
    let dropped = c.loop-followed.dropped.items in
    let below : c.loop-followed.followed < length dropped = omega arith in
    let next : c.candidate_at-candidate.result ≡ get_or (candidates_of dropped) c.loop-followed.followed 0 =
    rw c.deref.ensures.value at c.candidate_at-candidate.ensures in
    (rw (c.row_of.ensures, c.deref-in-loop-followed.ensures.value) at (c.in_ok-settle_row.ensures.settled
    (c.loop-followed.followed + 1)))
    (search_followed p c.in_ok-served.served.items c.loop-followed.followed c.candidate_at-candidate.result
    c.loop-followed.standing dropped c.in_ok-served.ensures below next c.loop-followed.invariant)

pub returns : goal.returns
returns c =
    search_end c.args.system.now c.loop-followed.followed c.loop-followed.standing c.loop-followed.dropped.items
    (omega arith) c.loop-followed.invariant
