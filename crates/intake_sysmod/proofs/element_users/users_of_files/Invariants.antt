use Rattle.std.proofs.Common.{take}
use Rattle.std.specs.Prelude.{All}
use Rattle.intake_sysmod.specs.Users.{IsKnown, run_of}
use Rattle.intake_sysmod.proofs.element_users.users_of_files.Given as goal

abbrev pub invariant-loop-file : goal.invariant-loop-file
invariant-loop-file l = All (IsKnown l.users) (run_of (take l.file-index l.files))
