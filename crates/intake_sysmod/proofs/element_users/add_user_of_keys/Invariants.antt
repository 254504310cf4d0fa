use Rattle.std.proofs.Common.{take}
use Rattle.std.specs.Prelude.{All}
use Rattle.intake_sysmod.specs.Users.{IsUser, UsersGrow}
use Rattle.intake_sysmod.proofs.element_users.add_user_of_keys.Given as goal

abbrev pub invariant-loop-key : goal.invariant-loop-key
invariant-loop-key l = record {
  has : All (λ key. IsUser l.users key l.id) (take l.key-index l.keys);
  grows : UsersGrow l.fn.users l.users;
}
