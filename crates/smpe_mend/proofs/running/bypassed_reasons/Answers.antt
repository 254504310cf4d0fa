use Rattle.std.proofs.Common.{subst, Contains}
use Rattle.std.specs.Prelude.{◌↔◌}
use Rattle.smpe_mend.proofs.running.bypassed_reasons.Goals as goal

pub returns : goal.returns
returns c = (
  c.from_vec.ensures.rising,
  λ r. subst (λ l. Contains c.from_vec.result r ↔ Contains l r) c.in_ok-reasons.ensures (c.from_vec.ensures.members r),
)
