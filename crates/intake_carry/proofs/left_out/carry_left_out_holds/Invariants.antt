use Rattle.std.proofs.Common.{[], take}
use Rattle.intake_holds.specs.Become.{Become}
use Rattle.intake_holds.specs.Holds.{LeftHoldBecomes}
use Rattle.intake_carry.proofs.left_out.carry_left_out_holds.Given as goal

abbrev pub invariant-loop-hold : goal.invariant-loop-hold
invariant-loop-hold l = Become (LeftHoldBecomes l.stated.id.items) (take l.hold-index l.stated.holds.items) []
    l.outside.items
