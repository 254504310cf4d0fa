use Rattle.std.proofs.Common.{arith, take, ap, length}
use Rattle.terms.proofs.BesideLists.{all_next, all_through}
use Rattle.intake_sysmod.specs.Users.{IsKnown}
use Rattle.intake_sysmod.proofs.Using.{grow_then, known_still}
use Rattle.intake_sysmod.proofs.element_users.add_users_of_file.Goals as goal

pub loop-sysmod-preserved : goal.loop-sysmod-preserved
loop-sysmod-preserved c =
    let new = c.add_users_of_sysmod.new.users in
    record {
      has = all_next (IsKnown new) c.args.file.now.sysmods.items c.loop-sysmod.sysmod-index c.sysmod-item.result
          (omega (arith, ap length c.deref-sysmod-items.ensures.value))
          (rw c.deref-sysmod-items.ensures.value at c.sysmod-item.is) c.in_ok-add_users_of_sysmod.ensures.has
          (known_still c.loop-sysmod.users new (take c.loop-sysmod.sysmod-index c.args.file.now.sysmods.items)
          c.in_ok-add_users_of_sysmod.ensures.grows c.loop-sysmod.invariant.has);
      grows = grow_then c.args.users.now c.loop-sysmod.users new c.loop-sysmod.invariant.grows
          c.in_ok-add_users_of_sysmod.ensures.grows;
    }

pub returns-clause-has : goal.returns-clause-has
returns-clause-has c =
    all_through (IsKnown c.loop-sysmod.users) c.args.file.now.sysmods.items c.loop-sysmod.sysmod-index
    (omega (arith, ap length c.deref-sysmod-items.ensures.value)) c.loop-sysmod.invariant.has
