use Rattle.std.proofs.Common.{ap, length, arith, subst, refl}
use Rattle.std.proofs.lemmas.List.{take_all}
use Rattle.intake_carry.specs.PassedOn.{PassesOn}
use Rattle.intake_carry.proofs.Passing.{passed_next}
use Rattle.intake_carry.proofs.passed_on.pass_holds_on.Goals as goal

pub loop-hold-init : goal.loop-hold-init
loop-hold-init c = record { same = refl; held = c.requires }

pub loop-hold-preserved : goal.loop-hold-preserved
loop-hold-preserved c =
    let at = c.loop-hold in
    let next = passed_next c.args.stated.now.holds.items at.hold-index c.hold-item.result c.args.sysmod.now at.sysmod
    c.pass_hold_on.new.sysmod (omega (arith, ap length c.deref-hold-items.ensures.value))
    (rw c.deref-hold-items.ensures.value at c.hold-item.is) at.invariant.same at.invariant.held
    c.in_ok-pass_hold_on.ensures in
    record { same = next.0; held = next.1 }

pub returns-clause-held : goal.returns-clause-held
returns-clause-held c =
    let at = c.loop-hold in
    subst (λ l. PassesOn c.args.sysmod.now.id c.args.sysmod.now.vers l at.sysmod.holds)
    (take_all at.hold-index c.args.stated.now.holds.items (omega (arith, ap length c.deref-hold-items.ensures.value)))
    at.invariant.held
