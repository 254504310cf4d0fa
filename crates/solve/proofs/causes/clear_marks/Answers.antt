use Rattle.std.proofs.Common.{◌<◌, length, get_or, arith}
use Rattle.solve.proofs.Marked.{cleared_more}
use Rattle.solve.proofs.causes.clear_marks.Goals as goal

pub loop-x-preserved : goal.loop-x-preserved
loop-x-preserved c =
    let small : get_or c.args.list.now c.loop-x.x-index 0 < length c.loop-x.marks =
    omega (arith, c.requires c.loop-x.x-index 0 c.loop-x-test.true) in
    cleared_more c.args.list.now c.args.marks.now c.loop-x.marks c.loop-x.x-index c.loop-x-test.true small
    c.loop-x.invariant
