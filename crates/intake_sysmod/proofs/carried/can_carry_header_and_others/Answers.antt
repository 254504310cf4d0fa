use Rattle.std.proofs.Common.{subst, sym, ◌∙◌}
use Rattle.std.specs.Prelude.{All}
use Rattle.intake_sysmod.specs.NoLooser.{IsHarmlessOther}
use Rattle.intake_sysmod.proofs.carried.can_carry_header_and_others.Goals as goal

pub returns : goal.returns
returns c = λ t.
    let both = c.are_both.ensures t in (
      sym c.as_slice-faulty.ensures.value ∙ c.are_all_read.ensures both.0,
      subst (All (IsHarmlessOther c.args.options.now.decide)) c.as_slice-2.ensures.value
          (c.in_ok-may_lack_others.ensures both.1),
    )
