use Rattle.std.proofs.Common.{arith}
use Rattle.sorted.proofs.edits.move_all.Goals as goal

pub push_reserved-requires : goal.push_reserved-requires
push_reserved-requires g c =
    let gone = c.in-Some.ensures.cases in
    let room = c.loop-item.invariant.room in
    omega arith
