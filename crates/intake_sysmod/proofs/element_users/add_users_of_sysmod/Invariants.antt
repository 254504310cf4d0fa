use Rattle.std.proofs.Common.{take}
use Rattle.std.specs.Prelude.{All}
use Rattle.intake_sysmod.specs.Users.{UsersGrow}
use Rattle.intake_sysmod.proofs.Using.{IsElementKnown}
use Rattle.intake_sysmod.proofs.element_users.add_users_of_sysmod.Given as goal

abbrev pub invariant-loop-element : goal.invariant-loop-element
invariant-loop-element l = record {
  has : All (IsElementKnown l.users l.stated.id.items) (take l.element-index l.stated.elements.items);
  grows : UsersGrow l.fn.users l.users;
}
