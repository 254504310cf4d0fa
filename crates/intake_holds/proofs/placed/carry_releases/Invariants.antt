use Rattle.std.proofs.Common.{[], take}
use Rattle.intake_holds.specs.Become.{Become}
use Rattle.intake_holds.specs.Holds.{ReleaseBecomes}
use Rattle.intake_holds.proofs.placed.carry_releases.Given as goal

abbrev pub invariant-loop-release : goal.invariant-loop-release
invariant-loop-release l = Become ReleaseBecomes (take l.release-index l.stated) [] l.placed.items
