use Rattle.std.proofs.Common.{◌∙◌, Err, ap, inl, refl}
use Rattle.std.proofs.lemmas.Result.{err_from_is_err_and}
use Rattle.smpe_jobs.specs.declared.messages.Fault.TheVariants.{Job}
use Rattle.smpe_command.proofs.questions.serve_why.Goals as goal

pub returns-in_err-bypass : goal.returns-in_err-bypass
returns-in_err-bypass g c =
    let p = err_from_is_err_and c.from_residual.result c.from_residual.ensures.1 in
    inl (p.1 ∙ ap Err (p.2 ∙ ap Job c.in_err-bypass.ensures.err), refl, refl)
