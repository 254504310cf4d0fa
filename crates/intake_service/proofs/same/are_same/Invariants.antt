use Rattle.std.proofs.Common.{◌≡◌, take}
use Rattle.intake_service.proofs.same.are_same.Given as goal

abbrev pub invariant-loop-place : goal.invariant-loop-place
invariant-loop-place g l = take l.place l.first ≡ take l.place l.other
