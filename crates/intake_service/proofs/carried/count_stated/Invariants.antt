use Rattle.std.proofs.Common.{◌≡◌, length, take}
use Rattle.intake_sysmod.specs.Users.{run_of}
use Rattle.intake_service.proofs.carried.count_stated.Given as goal

abbrev pub invariant-loop-file : goal.invariant-loop-file
invariant-loop-file l = l.count ≡ length (run_of (take l.file-index l.files))
