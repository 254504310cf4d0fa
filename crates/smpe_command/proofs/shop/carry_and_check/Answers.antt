use Rattle.std.proofs.Common.{◌∙◌, Err, ap, inl, inr, refl}
use Rattle.std.proofs.lemmas.Result.{err_from_is_err_and}
use Rattle.smpe_command.proofs.shop.carry_and_check.Goals as goal

pub returns-in_err-carried : goal.returns-in_err-carried
returns-in_err-carried g c =
    let p = err_from_is_err_and c.from_residual.result c.from_residual.ensures.1 in
    inl (c.in_err-carried.field-0.0, c.in_err-carried.ensures.err, p.1 ∙ ap Err p.2, refl, refl)

pub returns : goal.returns
returns g c = inr (c.in_ok-carried.carried, c.in_ok-carried.ensures.ok, c.check_package.ensures)
