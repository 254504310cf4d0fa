use Rattle.std.proofs.Common.{◌<◌, length, get_or, arith}
use Rattle.solve.proofs.Marked.{marked_stay, marked_add}
use Rattle.solve.proofs.causes.mark_row.Goals as goal
use Rattle.solve.proofs.causes.mark_row.Goals.{then-not-marks-x+in_ok-push, else-not-marks-x}

pub loop-x-preserved : goal.loop-x-preserved
loop-x-preserved c =
    let row = c.args.row.now in
    let i = c.loop-x.x-index in
    let small : get_or row i 0 < length c.loop-x.marks = omega (arith, c.requires i 0 c.loop-x-test.true) in
    elim c.if-not-marks-x.branch [
      | then-not-marks-x+in_ok-push w ↦ rw (w.marks-is, w.found-is, w.in_ok-push.ensures.items)
          (marked_add row c.args.marks.now c.loop-x.marks c.args.found.now.items c.loop-x.found.items i
          c.loop-x-test.true
          small w.if-not-marks-x.true c.loop-x.invariant)
      | else-not-marks-x w ↦ rw (w.marks-is, w.found-is)
          (marked_stay row c.args.marks.now c.loop-x.marks c.args.found.now.items c.loop-x.found.items i
          c.loop-x-test.true w.if-not-marks-x.false c.loop-x.invariant)
    ]
