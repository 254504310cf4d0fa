use Rattle.std.proofs.Common.{◌∷◌, [], ◌∙◌, List, map, Ok, ap, inr, sym, subst, refl}
use Rattle.std.specs.String.{string_bytes}
use Rattle.std.proofs.lemmas.Result.{err_from_is_err_and}
use Rattle.store.specs.Kept.{kept}
use Rattle.smpe_jobs.specs.Ending.{answer_of, job_of}
use Rattle.smpe_jobs.specs.declared.jobs.Job.{Job}
use Rattle.smpe_jobs.proofs.Early.{jobs_since}
use Rattle.smpe_command.specs.Database.{JobsOver}
use Rattle.smpe_rehearsal.proofs.OneJob.{alike_ok, alike_err}
use Rattle.smpe_command.proofs.OneJob.{over_as, only_one}
use Rattle.smpe_command.proofs.database.run_job_in_database.Given.{Over}
use Rattle.smpe_command.proofs.database.run_job_in_database.Goals.{After-close-2}
use Rattle.smpe_command.proofs.database.run_job_in_database.Goals as goal

-- how the list of the one job went
ran : (g : Over) (c : After-close-2 g) → JobsOver g.H.Host g.H.Disk.Store g.O.Sink c.args.host.now
    (string_bytes c.args.db.now.name)
    (job_of c.args.job.now ∷ []) c.args.out.now (λ v. map answer_of v.items) c.run_jobs-answers.result
    c.close-2.new.self c.run_jobs-answers.new.w
ran g c =
    let it = c.in_ok-store.ensures.ok in
    let went = c.run_jobs-answers.ensures in
    let jobs = map job_of c.from_ref.result.now in
    subst (λ (jobs : List Job). JobsOver g.H.Host g.H.Disk.Store g.O.Sink c.args.host.now
    (string_bytes c.args.db.now.name)
    (map job_of jobs) c.args.out.now (λ v. map answer_of v.items) c.run_jobs-answers.result c.close-2.new.self
    c.run_jobs-answers.new.w) c.from_ref.ensures.value (inr (
      record {
        begun = c.in_ok-store.store;
        opened = c.open_store.new.host;
        opens = it;
        store = c.run_jobs-answers.new.store;
        ends = λ clean s is.
            jobs_since g.H.Disk.Store it.conn c.in_ok-store.store c.run_jobs-answers.new.store
            (it.over.crash.counts, it.over.crash.limit) s jobs (g.O.Sink.taken c.args.out.now)
            (g.O.Sink.taken c.run_jobs-answers.new.w) (λ v. map answer_of v.items) c.run_jobs-answers.result
            (went.ends clean s (it.over.stands (kept s) is));
        closed = λ clean s is closed. went.closed clean s (it.over.stands (kept s) is) closed;
        goes = went.goes;
        closes = subst (λ conn. g.H.Host.closes c.open_store.new.host conn c.close-2.new.self) c.close.ensures.same
            c.close-2.ensures.closed;
      },
      went.fault,
    ))

pub returns-in_err-answers : goal.returns-in_err-answers
returns-in_err-answers g c =
    let r = c.from_residual-in_err-answers in
    let p = err_from_is_err_and r.result r.ensures.1 in
    over_as (λ v. map answer_of v.items) (λ answer. answer_of answer ∷ []) g.H.Disk.Store g.O.Sink
    (job_of c.args.job.now ∷ []) c.args.out.now c.run_jobs-answers.new.w g.H.Host c.args.host.now c.close-2.new.self
    (string_bytes c.args.db.now.name) c.run_jobs-answers.result r.result
    (alike_err (λ v. map answer_of v.items) (λ answer. answer_of answer ∷ []) c.run_jobs-answers.result r.result
    c.in_err-answers.field-0.0 p.0 c.in_err-answers.was p.1 (sym p.2))
    (ran g (goal.at.returns-in_err-answers g c).After-close-2)

pub returns : goal.returns
returns g c =
    let answers = c.in_ok-answers.field-0 in
    over_as (λ v. map answer_of v.items) (λ answer. answer_of answer ∷ []) g.H.Disk.Store g.O.Sink
    (job_of c.args.job.now ∷ []) c.args.out.now c.run_jobs-answers.new.w g.H.Host c.args.host.now c.close-2.new.self
    (string_bytes c.args.db.now.name) c.run_jobs-answers.result (Ok c.index.result.now)
    (alike_ok (λ v. map answer_of v.items) (λ answer. answer_of answer ∷ []) c.run_jobs-answers.result
    (Ok c.index.result.now) answers c.index.result.now c.in_ok-answers.was refl
    (ap (map answer_of) (only_one answers.items c.index.result.now
    (c.in_ok-answers.ensures.count ∙ c.from_ref.ensures.len) c.index.ensures)))
    (ran g (goal.at.returns g c).After-close-2)
