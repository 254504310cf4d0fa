use Rattle.std.proofs.Common.{◌≡◌, take, Some}
use Rattle.std.specs.Prelude.{All}
use Rattle.std.specs.Ordering.{nat_cmp}
use Rattle.std.specs.BTreeMap.{get}
use Rattle.intake_sysmod.specs.declared.element_users.ElementUser.TheVariants.{Only}
use Rattle.intake_sysmod.proofs.element_users.is_only_user_of_all.Given as goal

abbrev pub invariant-loop-key : goal.invariant-loop-key
invariant-loop-key l = All (λ key. get nat_cmp l.users key ≡ Some (Only l.id)) (take l.key-index l.keys)
