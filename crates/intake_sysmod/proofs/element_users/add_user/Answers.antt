use Rattle.std.proofs.Common.{rules, subst, ap, sym, ◌∙◌}
use Rattle.std.specs.Prelude.{IfSome}
use Rattle.intake_sysmod.specs.declared.element_users.ElementUser.TheVariants.{Only}
use Rattle.intake_sysmod.specs.Users.{Covers}
use Rattle.intake_sysmod.proofs.Using.{covers_then, user_added, users_grow}
use Rattle.intake_sysmod.proofs.element_users.add_user.Goals as goal

pub returns-clause-has : goal.returns-clause-has
returns-clause-has c =
    user_added c.args.users.now c.insert.new.self c.args.key c.with_user.result c.args.id.now
    c.in_ok-insert.ensures.updates
    (covers_then c.with_user.result c.user_for_id.result (Only c.args.id.now) c.with_user.ensures.new
    c.user_for_id.ensures)

pub returns-clause-grows : goal.returns-clause-grows
returns-clause-grows c =
    users_grow c.args.users.now c.insert.new.self c.args.key c.with_user.result c.in_ok-insert.ensures.updates
    (subst (λ o. IfSome o (Covers c.with_user.result)) (search rules) c.with_user.ensures.old)
