use Rattle.std.proofs.Common.{refl, arith}
use Rattle.solve.specs.NeedView.{numbered}
use Rattle.smpe_certificate.specs.Search.{Stays, Drops}
use Rattle.smpe_certificate.proofs.Searching.{need_at, same_length}
use Rattle.smpe_certificate.proofs.elimination.settle.Goals as goal
use Rattle.smpe_certificate.proofs.elimination.settle.Goals.{else-standing-need-via-then-standing-need+else-not-contains_any}
use Rattle.smpe_certificate.proofs.elimination.settle.Goals.{else-standing-need-via-else-standing-need}

pub returns-in_ok-push : goal.returns-in_ok-push
returns-in_ok-push c =
    let n = c.index-needs-place.result in
    Drops (numbered n)
    (need_at c.needs.result.now c.args.system.now.needs c.args.place n c.needs.ensures.needs
    (omega (arith, c.requires.place, same_length c.needs.result.now c.args.system.now.needs c.needs.ensures.needs))
    c.index-needs-place.is)
    c.if-standing-need.true
    (rw c.deref.ensures.value at (c.contains_any.ensures.none c.if-not-contains_any.true))
    refl
    c.in_ok-push.ensures.items

pub returns-else-standing-need : goal.returns-else-standing-need
returns-else-standing-need c =
    let n = c.index-needs-place.result in
    Stays (numbered n)
    (need_at c.needs.result.now c.args.system.now.needs c.args.place n c.needs.ensures.needs
    (omega (arith, c.requires.place, same_length c.needs.result.now c.args.system.now.needs c.needs.ensures.needs))
    c.index-needs-place.is)
    (elim c.else-standing-need.branch [
      | else-standing-need-via-then-standing-need+else-not-contains_any w ↦ λ _.
          rw w.deref.ensures.value at (w.contains_any.ensures.some w.if-not-contains_any.false)
      | else-standing-need-via-else-standing-need w ↦ λ stands. absurd (cc (stands, w.if-standing-need.false))
    ])
    refl refl
