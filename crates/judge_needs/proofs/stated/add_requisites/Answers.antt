use Rattle.std.proofs.Common.{arith}
use Rattle.std.proofs.lemmas.Grind.{common_steps}
use Rattle.judge_needs.proofs.Growing.{adds_one}
use Rattle.judge_needs.proofs.stated.add_requisites.Goals as goal

pub loop-id-preserved : goal.loop-id-preserved
loop-id-preserved c =
    adds_one c.args.function _ c.args.stated.now c.loop-id.stated c.add.new.lists _ _ c.loop-id.invariant
    c.in_ok-add.ensures (grind (arith, common_steps))
