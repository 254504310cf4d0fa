use Rattle.std.proofs.Common.{◌∙◌, Err, ap, inl, inr, refl}
use Rattle.std.proofs.lemmas.Result.{err_from_is_err_and}
use Rattle.smpe_command.proofs.packages.answer_carried.Goals as goal

pub returns-in_err-settled : goal.returns-in_err-settled
returns-in_err-settled g c =
    let p = err_from_is_err_and c.from_residual.result c.from_residual.ensures.1 in
    inl (c.in_err-settled.field-0.0, rw c.in_err-settled.was at c.settle.ensures.settles, p.1 ∙ ap Err p.2, refl)

pub returns : goal.returns
returns g c = inr (
  c.in_ok-settled.settled,
  c.settle.new.host,
  rw c.in_ok-settled.was at c.settle.ensures.settles,
  c.answer_settled.ensures,
)
