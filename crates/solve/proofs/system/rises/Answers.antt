use Rattle.std.proofs.Common.{take_all, length, arith, refl, subst, ◌≤◌}
use Rattle.terms.proofs.Rising.{Rises, rises_one, rises_more}
use Rattle.solve.proofs.system.rises.Goals as goal

pub loop-i-init : goal.loop-i-init
loop-i-init c = rises_one c.args.list.now

pub loop-i-preserved : goal.loop-i-preserved
loop-i-preserved c = rises_more c.args.list.now c.loop-i.i (omega arith) (omega arith) (omega arith) c.loop-i.invariant

pub returns : goal.returns
returns c =
    let whole : length c.args.list.now ≤ c.loop-i.i = omega arith in
    (λ _. subst Rises (take_all c.loop-i.i c.args.list.now whole) c.loop-i.invariant, λ _. refl)
