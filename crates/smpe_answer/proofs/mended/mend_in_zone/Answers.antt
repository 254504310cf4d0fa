use Rattle.std.proofs.Common.{Contains, subst}
use Rattle.std.specs.Prelude.{◌↔◌}
use Rattle.smpe_answer.proofs.mended.mend_in_zone.Goals as goal

pub returns : goal.returns
returns c = (
  c.from_vec-ids.result,
  c.from_vec-ids.ensures.rising,
  λ x. subst (λ l. Contains c.from_vec-ids.result x ↔ Contains l x) c.in_ok-from_slice.ensures.items
      (c.from_vec-ids.ensures.members x),
  c.in_ok-text.ensures.answers,
)
