use Rattle.std.proofs.Common.{◌∙◌, Err, ap, inl, inr, refl}
use Rattle.std.proofs.lemmas.Result.{err_from_is_err_and}
use Rattle.smpe_command.proofs.mending.mend_settled.Goals as goal

pub returns-in_err-rehearsed : goal.returns-in_err-rehearsed
returns-in_err-rehearsed g c =
    let p = err_from_is_err_and c.from_residual.result c.from_residual.ensures.1 in
    inl (c.in_err-rehearsed.field-0.0, rw c.in_err-rehearsed.was at c.rehearse_package.ensures, p.1 ∙ ap Err p.2, refl)

pub returns-in_err-answer : goal.returns-in_err-answer
returns-in_err-answer g c =
    let r = c.from_residual-in_err-answer in
    let p = err_from_is_err_and r.result r.ensures.1 in
    inr (
      c.in_ok-rehearsed.rehearsed,
      rw c.in_ok-rehearsed.was at c.rehearse_package.ensures,
      inl (p.1 ∙ ap Err p.2, refl),
    )

pub returns : goal.returns
returns g c = inr (
  c.in_ok-rehearsed.rehearsed,
  rw c.in_ok-rehearsed.was at c.rehearse_package.ensures,
  inr (
    c.raised_answer.result,
    (c.in_ok-answer.answer, c.in_ok-answer.ensures, c.raised_answer.ensures.text, c.raised_answer.ensures.status),
    c.write_answer.ensures,
  ),
)
