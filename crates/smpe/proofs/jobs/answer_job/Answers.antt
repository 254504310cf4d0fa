use Rattle.std.proofs.Common.{◌∷◌, [], sym, subst}
use Rattle.smpe.specs.Going.{GoesJob, GoesAmong}
use Rattle.smpe_jobs.specs.Ending.{EndsAmong, EndsJob, job_of, answer_of}
use Rattle.smpe.proofs.Single.{job_err}
use Rattle.smpe.proofs.Going.{job_early}
use Rattle.smpe.proofs.jobs.answer_job.Goals as goal

pub returns-in_err-code-in-Run-clause-ends : goal.returns-in_err-code-in-Run-clause-ends
returns-in_err-code-in-Run-clause-ends g c clean s keeps =
    let at = c.run_job.new.store in
    let old = g.W.Sink.taken c.args.w.now in
    let new = g.W.Sink.taken c.run_job.new.w in
    let error = c.in_err-code-in-Run.field-0.0 in
    job_err g.S.Store c.args.store.now at s (job_of c.args.job.now) old new answer_of c.from_residual.result error
    c.from_residual.ensures.1
    (subst (λ job. EndsAmong g.S.Store c.args.store.now at s (job_of job ∷ []) old new error) (sym c.in-Run.is)
    (c.in_err-code-in-Run.ensures.ends clean s keeps))

pub returns-in-Zone-clause-ends : goal.returns-in-Zone-clause-ends
returns-in-Zone-clause-ends g c clean s keeps =
    let taken = g.W.Sink.taken c.args.w.now in
    subst (λ job. EndsJob g.S.Store c.args.store.now c.answer_definition.new.store s (job_of job) taken taken answer_of
    c.answer_definition.result)
    (sym c.in-Zone.is) (c.answer_definition.ensures.ends clean s keeps taken)

pub returns-in_err-code-in-Run-clause-goes : goal.returns-in_err-code-in-Run-clause-goes
returns-in_err-code-in-Run-clause-goes g c =
    let old = g.W.Sink.taken c.args.w.now in
    let new = g.W.Sink.taken c.run_job.new.w in
    let error = c.in_err-code-in-Run.field-0.0 in
    let at = c.run_job.new.store in
    job_early g.S.Store c.args.store.now at (job_of c.args.job.now) old new answer_of c.from_residual.result error
    c.from_residual.ensures.1
    (subst (λ job. GoesAmong g.S.Store c.args.store.now at (job_of job ∷ []) old new error)
    (sym c.in-Run.is) c.in_err-code-in-Run.ensures.goes)

pub returns-in_ok-code-in-Run-clause-ends : goal.returns-in_ok-code-in-Run-clause-ends
returns-in_ok-code-in-Run-clause-ends g c clean s keeps =
    rw c.in-Run.is (c.in_ok-code-in-Run.ensures.ends clean s keeps)

pub returns-in_ok-code-in-Run-clause-goes : goal.returns-in_ok-code-in-Run-clause-goes
returns-in_ok-code-in-Run-clause-goes g c = rw c.in-Run.is c.in_ok-code-in-Run.ensures.goes

pub returns-in-Zone-clause-goes : goal.returns-in-Zone-clause-goes
returns-in-Zone-clause-goes g c =
    let taken = g.W.Sink.taken c.args.w.now in
    subst (λ job. GoesJob g.S.Store c.args.store.now c.answer_definition.new.store (job_of job) taken taken answer_of
    c.answer_definition.result)
    (sym c.in-Zone.is) (c.answer_definition.ensures.goes taken)
