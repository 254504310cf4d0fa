use Rattle.std.proofs.Common.{rules, subst}
use Rattle.intake_sysmod.specs.Users.{run_of, IsAlone}
use Rattle.intake_sysmod.proofs.Using.{alone}
use Rattle.intake_sysmod.proofs.users.Users.has_no_other_user.Goals as goal

pub returns : goal.returns
returns c = λ t. (
  c.lacks_nothing.ensures c.if-not-lacks_nothing.false,
  subst (λ run. IsAlone run c.args.stated.now.id.items c.args.element.now) c.self.view_is
      (alone c.self.inside.by_key (run_of c.self.inside.files.now) c.args.stated.now.id.items c.args.element.now
      c.in_ok-keys.keys.items c.self.invariant c.in_ok-keys.ensures (search rules)),
)
