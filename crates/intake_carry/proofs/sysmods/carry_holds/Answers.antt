use Rattle.std.proofs.Common.{◌∙◌, subst, sym, ap, Some}
use Rattle.intake_holds.specs.Become.{Become}
use Rattle.intake_holds.specs.Holds.{HoldBecomes}
use Rattle.terms.specs.Types.{Sysmod}
use Rattle.intake_carry.specs.PassedOn.{PassesOn}
use Rattle.intake_carry.proofs.sysmods.carry_holds.Goals as goal

pub returns-clause-same : goal.returns-clause-same
returns-clause-same c =
    c.in_ok-outside.ensures.same ∙ ap (λ (s : Sysmod). record s { holds = c.place_holds.new.sysmod.holds })
    c.in_ok-pass_holds_on.ensures.same

pub returns-clause-held : goal.returns-clause-held
returns-clause-held c =
    let held = c.in_ok-outside.ensures.held in
    let stated = c.args.stated.now.holds.items in
    let after = c.in_ok-outside.ensures.same in
    let before = c.in_ok-pass_holds_on.ensures.same in (
      c.pass_holds_on.new.sysmod.holds,
      held.0,
      held.1,
      subst (λ (s : Sysmod). PassesOn s.id s.vers stated c.pass_holds_on.new.sysmod.holds) (sym after)
          (subst (λ (s : Sysmod). PassesOn s.id s.vers stated c.pass_holds_on.new.sysmod.holds) (sym before)
          c.in_ok-pass_holds_on.ensures.held),
      subst (λ (s : Sysmod). Become (HoldBecomes (Some s.id)) stated held.0 c.in_ok-outside.outside.items) (sym after)
          held.2,
    )
