use Rattle.std.proofs.Common.{◌∷◌, [], ◌++◌, ◌+◌, map, take, drop, Ok, refl, sym, ap, ◌∙◌, subst, arith, rules}
use Rattle.std.proofs.lemmas.List.{map-append, take_all}
use Rattle.smpe_jobs.specs.declared.error.JobError.TheVariants.{Memory}
use Rattle.smpe_jobs.specs.Ending.{EndsAmong, EndsJobs, job_of, answer_of}
use Rattle.store.proofs.GoingCalls.{follows_itself, follows_on}
use Rattle.smpe_jobs.proofs.Early.{ends_unbegun}
use Rattle.smpe.proofs.Taken.{taken_more, taken_split}
use Rattle.smpe_jobs.proofs.Listing.{jobs_err, jobs_more, jobs_stop}
use Rattle.smpe_jobs.proofs.Closing.{keeps_closed, closed_now}
use Rattle.smpe.specs.Going.{JobsRan, GoesAmong}
use Rattle.smpe.proofs.Going.{jobs_unbegun, jobs_one_more, jobs_stopped, stopped_more, jobs_early}
use Rattle.smpe.proofs.jobs.run_jobs.Goals as goal

pub returns-in_err-answers-clause-ends : goal.returns-in_err-answers-clause-ends
returns-in_err-answers-clause-ends g c clean s keeps =
    let taken = g.W.Sink.taken c.args.w.now in
    jobs_err g.S.Store s c.args.store.now c.args.store.now (map job_of c.args.jobs.now) taken taken (λ v. map answer_of
    v.items)
    c.from_residual.result Memory c.from_residual.ensures.1
    (ends_unbegun g.S.Store c.args.store.now c.args.store.now s (map job_of c.args.jobs.now) taken keeps)

pub returns-in_err-answer-clause-ends : goal.returns-in_err-answer-clause-ends
returns-in_err-answer-clause-ends g c clean s keeps =
    let done = map job_of (take c.loop-job.job-index c.args.jobs.now) in
    let rest = map job_of (drop (c.loop-job.job-index + 1) c.args.jobs.now) in
    let at = c.answer_job.new.store in
    let old = g.W.Sink.taken c.args.w.now in
    let new = g.W.Sink.taken c.answer_job.new.w in
    let error = c.in_err-answer.field-0.0 in
    jobs_err g.S.Store s c.args.store.now at (map job_of c.args.jobs.now) old new (λ v. map answer_of v.items)
    c.from_residual-in_err-answer.result error c.from_residual-in_err-answer.ensures.1
    (subst (λ jobs. EndsAmong g.S.Store c.args.store.now at s jobs old new error)
    (sym (taken_split job_of c.args.jobs.now c.loop-job.job-index c.job-item.result c.loop-job-test.true c.job-item.is))
    (jobs_stop g.S.Store s c.args.store.now c.loop-job.store at done (job_of c.job-item.result) old (g.W.Sink.taken
    c.loop-job.w) new
    (map answer_of c.loop-job.answers.items) rest error
    (c.loop-job.invariant.follows.faults, c.loop-job.invariant.follows.limit)
    (c.loop-job.invariant.ran (c.answer_job.ensures.follows.clean clean) s keeps)
    (λ t stands. c.in_err-answer.ensures.ends clean t stands)))

pub loop-job-preserved : goal.loop-job-preserved
loop-job-preserved g c =
    let pushed = rw c.unwrap.ensures at c.push.ensures.items in
    let counted = rw c.unwrap.ensures at c.push.ensures.len in
    record {
      follows = follows_on g.S.Store c.args.store.now c.loop-job.store c.answer_job.new.store
          c.loop-job.invariant.follows c.answer_job.ensures.follows;
      ran = λ clean s keeps.
          let done = map job_of (take c.loop-job.job-index c.args.jobs.now) in
          let at = c.answer_job.new.store in
          let old = g.W.Sink.taken c.args.w.now in
          let new = g.W.Sink.taken c.answer_job.new.w in
          let answers = map answer_of c.loop-job.answers.items in
          let answer = answer_of c.in_ok-answer.answer in
          subst (λ told. EndsJobs g.S.Store c.args.store.now at s (map job_of (take (c.loop-job.job-index + 1)
          c.args.jobs.now)) old new
          (λ all. all) (Ok told))
          (sym (ap (map answer_of) pushed ∙ map-append answer_of c.loop-job.answers.items (c.in_ok-answer.answer ∷ [])))
          (subst (λ jobs. EndsJobs g.S.Store c.args.store.now at s jobs old new (λ all. all) (Ok (answers ++ answer ∷
          [])))
          (sym (taken_more job_of c.args.jobs.now c.loop-job.job-index c.job-item.result c.loop-job-test.true
          c.job-item.is))
          (jobs_more g.S.Store s c.args.store.now c.loop-job.store at done (job_of c.job-item.result) old
          (g.W.Sink.taken c.loop-job.w)
          new answers answer
          (c.loop-job.invariant.ran (c.answer_job.ensures.follows.clean clean) s keeps)
          (λ t stands. c.in_ok-answer.ensures.ends clean t stands)));
      goes =
          let done = map job_of (take c.loop-job.job-index c.args.jobs.now) in
          let old = g.W.Sink.taken c.args.w.now in
          let new = g.W.Sink.taken c.answer_job.new.w in
          let answers = map answer_of c.loop-job.answers.items in
          let answer = answer_of c.in_ok-answer.answer in
          subst (λ told. JobsRan g.S.Store c.args.store.now (map job_of (take (c.loop-job.job-index + 1)
          c.args.jobs.now)) c.answer_job.new.store old new told)
          (sym (ap (map answer_of) pushed ∙ map-append answer_of c.loop-job.answers.items (c.in_ok-answer.answer ∷ [])))
          (subst (λ jobs. JobsRan g.S.Store c.args.store.now jobs c.answer_job.new.store old new
          (answers ++ answer ∷ []))
          (sym (taken_more job_of c.args.jobs.now c.loop-job.job-index c.job-item.result c.loop-job-test.true
          c.job-item.is))
          (jobs_one_more g.S.Store c.args.store.now c.loop-job.store c.answer_job.new.store done (job_of
          c.job-item.result) old
          (g.W.Sink.taken c.loop-job.w) new answers answer c.loop-job.invariant.goes
          c.in_ok-answer.ensures.goes));
      closed = λ clean s keeps closed.
          let was = c.answer_job.ensures.follows.clean clean in
          let ran = c.loop-job.invariant.ran was s keeps in
          c.answer_job.ensures.closed clean ran.0 ran.3
          (closed_now g.S.Store c.loop-job.store was ran.0 ran.3 (c.loop-job.invariant.closed was s keeps closed));
      count = search rules;
      room = omega (arith, c.push.ensures.capacity, c.loop-job.invariant.room);
      sound = λ none. c.in_ok-answer.ensures.fault (c.loop-job.invariant.sound none);
    }

pub loop-job-init : goal.loop-job-init
loop-job-init g c = record {
  follows = follows_itself g.S.Store c.args.store.now;
  ran = search rules;
  goes = search rules;
  closed = λ clean s keeps closed. keeps_closed g.S.Store c.args.store.now clean s keeps closed;
  count = search rules;
  room = search rules;
  sound = search rules;
}

pub returns-in_err-answers-clause-closed : goal.returns-in_err-answers-clause-closed
returns-in_err-answers-clause-closed g c clean s keeps closed =
    keeps_closed g.S.Store c.args.store.now clean s keeps closed

pub returns-in_err-answer-clause-closed : goal.returns-in_err-answer-clause-closed
returns-in_err-answer-clause-closed g c clean s keeps closed =
    let was = c.answer_job.ensures.follows.clean clean in
    let ran = c.loop-job.invariant.ran was s keeps in
    c.answer_job.ensures.closed clean ran.0 ran.3
    (closed_now g.S.Store c.loop-job.store was ran.0 ran.3 (c.loop-job.invariant.closed was s keeps closed))

pub returns-in_err-answers-clause-goes : goal.returns-in_err-answers-clause-goes
returns-in_err-answers-clause-goes g c =
    let taken = g.W.Sink.taken c.args.w.now in
    jobs_early g.S.Store c.args.store.now c.args.store.now (map job_of c.args.jobs.now) taken taken (λ v. map answer_of
    v.items) c.from_residual.result Memory c.from_residual.ensures.1
    (jobs_unbegun g.S.Store c.args.store.now (map job_of c.args.jobs.now) taken)

pub returns-in_err-answer-clause-goes : goal.returns-in_err-answer-clause-goes
returns-in_err-answer-clause-goes g c =
    let done = map job_of (take c.loop-job.job-index c.args.jobs.now) in
    let rest = map job_of (drop (c.loop-job.job-index + 1) c.args.jobs.now) in
    let at = c.answer_job.new.store in
    let old = g.W.Sink.taken c.args.w.now in
    let mid = g.W.Sink.taken c.loop-job.w in
    let new = g.W.Sink.taken c.answer_job.new.w in
    let job = job_of c.job-item.result in
    let error = c.in_err-answer.field-0.0 in
    jobs_early g.S.Store c.args.store.now at (map job_of c.args.jobs.now) old new (λ v. map answer_of v.items)
    c.from_residual-in_err-answer.result error c.from_residual-in_err-answer.ensures.1
    (subst (λ jobs. GoesAmong g.S.Store c.args.store.now at jobs old new error)
    (sym (taken_split job_of c.args.jobs.now c.loop-job.job-index c.job-item.result c.loop-job-test.true c.job-item.is))
    (stopped_more g.S.Store c.args.store.now at (done ++ job ∷ []) rest old new error
    (jobs_stopped g.S.Store c.args.store.now c.loop-job.store at done (job ∷ []) old mid new
    (map answer_of c.loop-job.answers.items) error c.loop-job.invariant.goes c.in_err-answer.ensures.goes)))

pub returns-clause-goes : goal.returns-clause-goes
returns-clause-goes g c =
    subst (λ jobs. JobsRan g.S.Store c.args.store.now (map job_of jobs) c.loop-job.store (g.W.Sink.taken
    c.args.w.now) (g.W.Sink.taken c.loop-job.w) (map answer_of c.loop-job.answers.items))
    (take_all c.loop-job.job-index c.args.jobs.now (omega (arith, c.loop-job-test.false))) c.loop-job.invariant.goes
