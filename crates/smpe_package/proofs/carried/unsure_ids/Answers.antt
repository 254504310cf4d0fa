use Rattle.std.proofs.Common.{Contains, subst}
use Rattle.std.specs.Prelude.{◌↔◌}
use Rattle.smpe_package.proofs.carried.unsure_ids.Goals as goal

pub returns : goal.returns
returns c = (
  c.from_vec.ensures.rising,
  λ x. subst (λ l. Contains c.from_vec.result x ↔ Contains l x) c.in_ok-ids.ensures (c.from_vec.ensures.members x),
)
