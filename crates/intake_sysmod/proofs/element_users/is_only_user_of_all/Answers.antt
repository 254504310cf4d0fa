use Rattle.std.proofs.Common.{◌≡◌, Some}
use Rattle.std.specs.Ordering.{nat_cmp}
use Rattle.std.specs.BTreeMap.{get}
use Rattle.intake_sysmod.specs.declared.element_users.ElementUser.TheVariants.{Only}
use Rattle.intake_sysmod.proofs.Quantified.{all_more}
use Rattle.intake_sysmod.proofs.element_users.is_only_user_of_all.Goals as goal

pub loop-key-preserved : goal.loop-key-preserved
loop-key-preserved c =
    all_more (λ key. get nat_cmp c.args.users.now key ≡ Some (Only c.args.id.now)) c.args.keys.now
    c.loop-key.key-index 0
    c.loop-key-test.true (c.is_only_user.ensures c.if-not-is_only_user.false) c.loop-key.invariant
