use Rattle.std.proofs.Common.{take}
use Rattle.std.specs.Prelude.{All}
use Rattle.intake_sysmod.specs.Users.{IsKnown, UsersGrow}
use Rattle.intake_sysmod.proofs.element_users.add_users_of_file.Given as goal

abbrev pub invariant-loop-sysmod : goal.invariant-loop-sysmod
invariant-loop-sysmod l = record {
  has : All (IsKnown l.users) (take l.sysmod-index l.file.sysmods.items);
  grows : UsersGrow l.fn.users l.users;
}
