use Rattle.std.proofs.Common.{◌<◌, ◌+◌, take, length, arith, subst, take_all}
use Rattle.std.specs.List.{All}
use Rattle.std.proofs.lemmas.List.Elements.{All-map}
use Rattle.solve.specs.NeedView.{numbered}
use Rattle.solve.specs.Parts.{IsServed}
use Rattle.solve.specs.System.{holds}
use Rattle.solve.proofs.PassingElements.{clash}
use Rattle.solve.proofs.Drops.{swept_stay, swept_drop, Contains_need}
use Rattle.solve.proofs.sweep.drop_unserved.Goals as goal
use Rattle.solve.proofs.sweep.drop_unserved.Goals.{then-set-of+then-not-contains_any, else-set-of}
use Rattle.solve.proofs.sweep.drop_unserved.Goals.{else-set-of-via-then-set-of+else-not-contains_any}
use Rattle.solve.proofs.sweep.drop_unserved.Goals.{else-set-of-via-else-set-of}

pub loop-need-preserved : goal.loop-need-preserved
loop-need-preserved c =
    let p = c.args.system.now in
    let old = c.args.set.now in
    let now = c.loop-need.set in
    let n = c.need-item.result in
    let needs = c.needs-need-items.result.now in
    let i = c.loop-need.need-index in
    let below : n.of < length now = omega (
      arith,
      rw (← c.need-item.is) at
          ((c.needs-need-items.ensures.valid i n c.loop-need-test.true).of),
    ) in
    elim c.if-set-of.branch [
      | then-set-of+then-not-contains_any w ↦
          let none = rw w.deref.ensures.value at (w.contains_any.ensures.none w.if-not-contains_any.true) in
          rw (w.set-is, w.dropped-is) (swept_drop p old now c.loop-need.dropped (take i needs) (take (i + 1) needs)
          (numbered n)
          (Contains_need needs i n p.needs c.needs-need-items.ensures.needs c.loop-need-test.true c.need-item.is)
          (λ some. clash (holds now) n.any.items some none) below w.if-set-of.true c.loop-need.invariant)
      | else-set-of w ↦
          rw (w.set-is, w.dropped-is) (swept_stay p old now c.loop-need.dropped needs i n c.loop-need-test.true
          c.need-item.is
          (elim w.else-set-of.branch [
            | else-set-of-via-then-set-of+else-not-contains_any v ↦ λ _.
                rw v.deref.ensures.value at (v.contains_any.ensures.some v.if-not-contains_any.false)
            | else-set-of-via-else-set-of v ↦ λ h. cc (h, v.if-set-of.false)
          ])
          c.loop-need.invariant)
    ]

pub returns-clause-served : goal.returns-clause-served
returns-clause-served c none =
    let needs = c.needs-need-items.result.now in
    let seen : All (λ n. IsServed c.loop-need.set (numbered n)) needs =
    rw (take_all _ needs c.loop-need-test.false) at (c.loop-need.invariant.served none) in
    subst (All (IsServed c.loop-need.set)) c.needs-need-items.ensures.needs
    (All-map (IsServed c.loop-need.set) numbered needs seen)
