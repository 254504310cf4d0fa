use Rattle.std.proofs.Common.{take, arith}
use Rattle.terms.proofs.BesideLists.{all_through}
use Rattle.intake_sysmod.specs.Users.{IsUser}
use Rattle.intake_sysmod.proofs.Quantified.{all_more}
use Rattle.intake_sysmod.proofs.Using.{grow_then, numbers_still}
use Rattle.intake_sysmod.proofs.element_users.add_user_of_keys.Goals as goal

pub loop-key-preserved : goal.loop-key-preserved
loop-key-preserved c = record {
  has = all_more (λ key. IsUser c.add_user.new.users key c.args.id.now) c.args.keys.now c.loop-key.key-index 0
      c.loop-key-test.true c.in_ok-add_user.ensures.has
      (numbers_still c.loop-key.users c.add_user.new.users c.args.id.now (take c.loop-key.key-index c.args.keys.now)
      c.in_ok-add_user.ensures.grows c.loop-key.invariant.has);
  grows = grow_then c.args.users.now c.loop-key.users c.add_user.new.users c.loop-key.invariant.grows
      c.in_ok-add_user.ensures.grows;
}

pub returns-clause-has : goal.returns-clause-has
returns-clause-has c =
    all_through (λ key. IsUser c.loop-key.users key c.args.id.now) c.args.keys.now c.loop-key.key-index (omega arith)
    c.loop-key.invariant.has
