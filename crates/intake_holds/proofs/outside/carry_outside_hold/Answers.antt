use Rattle.std.proofs.Common.{◌≡◌, None, Some}
use Rattle.terms.specs.Types.{Id}
use Rattle.intake_holds.specs.Holds.{IsLeftOut, IsOutside}
use Rattle.intake_holds.proofs.Becoming.{not_inside}
use Rattle.intake_holds.proofs.outside.carry_outside_hold.Goals as goal

pub returns-in_default : goal.returns-in_default
returns-in_default c = IsLeftOut (rw c.in_default.is at c.in_ok-carried.ensures.none)

pub returns : goal.returns
returns c =
    let hold = c.in-Some.carried in
    IsOutside hold (rw c.in-Some.is at c.in_ok-carried.ensures.some)
    (not_inside hold c.args.hold.now (rw c.in-Some.is at c.in_ok-carried.ensures.internal)) (λ i. by i.1)
  where
    by : {x : Id} → None ≡ Some x → ⊥
    by f = cc
