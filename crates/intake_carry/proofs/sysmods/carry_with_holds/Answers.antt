use Rattle.std.proofs.Common.{None, refl}
use Rattle.intake_carry.proofs.WithHolds.{from_both, with_its_holds}
use Rattle.intake_carry.proofs.sysmods.carry_with_holds.Goals as goal

pub returns-in_default : goal.returns-in_default
returns-in_default c = record {
  sysmod = None;
  items_are = refl;
  no_looser = tt;
  held = c.in_ok-outside.ensures;
}

pub returns : goal.returns
returns c =
    from_both c.carry_holds.result (λ part same held. record {
      sysmod = part.sysmod;
      items_are = refl;
      no_looser = with_its_holds c.args.scope.now.options.now.decide c.args.scope.now.users.now c.args.stated.now
          c.in-Some.sysmod part.sysmod (rw c.in-Some.is at c.in_ok-sysmod.ensures).0 same;
      held = held;
    }) c.carry_holds.ensures.same c.carry_holds.ensures.held
