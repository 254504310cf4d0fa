use Rattle.std.proofs.Common.{◌∙◌, Ok, Err, ap, sym, refl}
use Rattle.std.proofs.lemmas.Result.{err_from_is_err_and}
use Rattle.smpe_command.specs.Shop.{raised_to}
use Rattle.smpe_command.proofs.packages.answer_package.Goals as goal

pub returns-in_err-status : goal.returns-in_err-status
returns-in_err-status g c =
    let p = err_from_is_err_and c.from_residual.result c.from_residual.ensures.1 in (
      c.tell_remarks.new.out,
      c.tell_remarks.result,
      c.tell_remarks.ensures,
      rw c.in_err-status.was (p.1 ∙ ap Err p.2, refl, refl),
    )

pub returns-in_err-answered : goal.returns-in_err-answered
returns-in_err-answered g c =
    let r = c.from_residual-in_err-answered in
    let p = err_from_is_err_and r.result r.ensures.1 in (
      c.tell_remarks.new.out,
      c.tell_remarks.result,
      c.tell_remarks.ensures,
      rw c.in_ok-status.was (
        c.answer_if_any.result,
        c.answer_if_any.ensures,
        p.1 ∙ ap Err p.2 ∙ sym (ap (raised_to c.in_ok-status.status) c.in_err-answered.was),
      ),
    )

pub returns : goal.returns
returns g c = (
  c.tell_remarks.new.out,
  c.tell_remarks.result,
  c.tell_remarks.ensures,
  rw c.in_ok-status.was (
    c.answer_if_any.result,
    c.answer_if_any.ensures,
    ap (λ n. Ok n) c.max.ensures ∙ sym (ap (raised_to c.in_ok-status.status) c.in_ok-answered.was),
  ),
)
