use Rattle.std.proofs.Common.{take}
use Rattle.std.specs.Prelude.{All}
use Rattle.intake_sysmod.specs.Users.{IsKnown}
use Rattle.intake_carry.proofs.left_out_sysmods.users_of_all.Given as goal

abbrev pub invariant-loop-stated : goal.invariant-loop-stated
invariant-loop-stated l = All (λ s. IsKnown l.users s.now) (take l.stated-index l.sysmods)
