use Rattle.std.proofs.Common.{Err, map, ap, inl, inr, refl}
use Rattle.smpe_jobs.specs.Ending.{answer_of, job_of}
use Rattle.smpe_jobs.specs.FromEmpty.{empty_system}
use Rattle.smpe_jobs.proofs.Early.{jobs_since}
use Rattle.store.specs.Kept.{kept}
use Rattle.smpe_rehearsal.proofs.service_set.run_jobs_in_new_database.Goals as goal

pub returns-in-Ok : goal.returns-in-Ok
returns-in-Ok g c =
    let opened = c.in-Ok.ensures in
    let store = c.run_jobs-answers.new.store in inr (
      store,
      λ clean found. jobs_since g.S.Store c.args.conn c.in-Ok.store store (opened.crash.counts, opened.crash.limit)
          empty_system (map job_of c.args.jobs.now) (g.O.Sink.taken c.args.out.now)
          (g.O.Sink.taken c.run_jobs-answers.new.w) (λ v. map answer_of v.items) c.run_jobs-answers.result
          (c.run_jobs-answers.ensures.ends clean empty_system (record {
            now = opened.tables (kept empty_system) found;
            crash = opened.leaves (kept empty_system) found;
          })),
      c.run_jobs-answers.ensures.fault,
    )

pub returns-in-Err : goal.returns-in-Err
returns-in-Err g c = inl (
  c.in-Err.error,
  record { left = c.in-Err.conn; other = c.in-Err.ensures.other; none = c.in-Err.ensures.none },
  ap Err c.from.ensures,
  refl,
)
