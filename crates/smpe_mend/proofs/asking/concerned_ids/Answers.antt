use Rattle.std.proofs.Common.{subst, Contains}
use Rattle.std.specs.Prelude.{◌↔◌}
use Rattle.smpe_mend.proofs.asking.concerned_ids.Goals as goal

pub returns : goal.returns
returns c x =
    subst (λ l. Contains c.from_vec.result x ↔ Contains l x) c.in_ok-concern.ensures (c.from_vec.ensures.members x)
