use Rattle.std.proofs.Common.{◌∙◌, Result, ap, refl, subst, sym}
use Rattle.std.proofs.lemmas.Result.{err_from_is_err_and}
use Rattle.smpe_invocation.specs.declared.asked.CheckedSystem.TheVariants.{Copied}
use Rattle.smpe_jobs.specs.Errors.{job_error}
use Rattle.smpe_command.specs.Systems.{ReadsSystem}
use Rattle.smpe_command.proofs.systems.read_system.Goals as goal

pub returns-in-Empty : goal.returns-in-Empty
returns-in-Empty g c = rw c.in-Empty.is (refl, refl)

pub returns-in_err-bytes-in-Copied : goal.returns-in_err-bytes-in-Copied
returns-in_err-bytes-in-Copied g c =
    let why = c.in_err-bytes-in-Copied.ensures.err in
    let p = err_from_is_err_and c.from_residual.result c.from_residual.ensures.1 in
    rw c.in-Copied.is (subst (λ (r : Result _ _). ReadsSystem g.H.Host c.args.host.now (Copied c.in-Copied.copy) r
    c.read_database_bytes.new.host) (sym p.1) (why.0, why.1, p.2 ∙ ap job_error why.2))

pub returns-in_ok-bytes-in-Copied : goal.returns-in_ok-bytes-in-Copied
returns-in_ok-bytes-in-Copied g c =
    rw c.in-Copied.is (c.in_ok-bytes-in-Copied.bytes, c.in_ok-bytes-in-Copied.ensures.ok, refl)
