use Rattle.std.proofs.Common.{◌∙◌, inr, sym}
use Rattle.smpe_command.proofs.packages.answer_settled.Goals as goal

pub returns : goal.returns
returns g c =
    rw (sym c.is_plain.ensures ∙ c.if-is_plain.false) (inr (
      c.in_ok-rehearsed.rehearsed,
      rw c.in_ok-rehearsed.was at c.rehearse_package.ensures,
      c.answer_rehearsed.ensures,
    ))
