use Rattle.std.proofs.Common.{◌∙◌, ◌++◌, ap}
use Rattle.smpe_answer.proofs.asked_ids.add_ids.Goals as goal

pub returns : goal.returns
returns c = (
  c.in_ok-told.told,
  c.in_ok-told.ensures,
  c.in_ok-extend_from_slice.ensures.items ∙ ap (λ more. c.args.part.text.items ++ more) c.as_slice.ensures.value,
  c.max.ensures,
)
