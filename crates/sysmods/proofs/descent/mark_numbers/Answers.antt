use Rattle.std.proofs.Common.{arith}
use Rattle.sysmods.proofs.Descents.{marks_next}
use Rattle.sysmods.proofs.descent.mark_numbers.Goals as goal

pub loop-number-preserved : goal.loop-number-preserved
loop-number-preserved c =
    let i = c.loop-number.number-index in
    marks_next c.args.numbers.now c.args.marks.now.items c.loop-number.marks.items i c.loop-number-test.true
    (omega (arith, c.requires i 0 c.loop-number-test.true, c.loop-number.invariant.room)) c.loop-number.invariant
