use Rattle.std.proofs.Common.{◌≡◌, ◌∙◌, List, Ok, Err, map, ap, sym, refl}
use Rattle.std.specs.Prelude.{max}
use Rattle.std.proofs.lemmas.Result.{err_from_is_err_and}
use Rattle.machine.specs.Machine as machine
use Rattle.smpe_jobs.specs.Ending.{answer_of, job_of}
use Rattle.smpe_jobs.specs.declared.jobs.Answer.{Answer}
use Rattle.smpe_rehearsal.specs.Copied.{at_least}
use Rattle.smpe_rehearsal.specs.ServiceSet.{greatest}
use Rattle.smpe_rehearsal.proofs.Copying.{tried}
use Rattle.smpe_rehearsal.proofs.OneJob.{alike_ok, alike_err}
use Rattle.smpe_rehearsal.proofs.copied.run_and_ask.Goals as goal

pub returns-in_err-answers : goal.returns-in_err-answers
returns-in_err-answers g c = λ conn over.
    let went = c.run_jobs.ensures in
    let error = c.in_err-answers.field-0.0 in
    let p = err_from_is_err_and c.from_residual.result c.from_residual.ensures.1 in
    tried g.S.Store g.O.Sink c.args.zone c.args.ids.now (λ v. map answer_of v.items) (map job_of c.args.jobs.now) conn
    c.args.store.now c.run_jobs.new.store c.args.out.now c.run_jobs.new.w c.run_jobs.new.w c.run_jobs.result (Err error)
    c.from_residual.result
    (alike_err (λ v. map answer_of v.items) (λ all. all) c.run_jobs.result (Err error) error error c.in_err-answers.was
    refl refl) over went.ends went.goes went.fault (p.1 ∙ ap Err p.2, refl)

pub returns-in_err-answer_status : goal.returns-in_err-answer_status
returns-in_err-answer_status g c = λ conn over.
    let went = c.run_jobs.ensures in
    let answers = c.in_ok-answers.answers in
    let all : List machine.Answer = map answer_of answers.items in
    let r = c.from_residual-in_err-answer_status in
    let p = err_from_is_err_and r.result r.ensures.1 in
    tried g.S.Store g.O.Sink c.args.zone c.args.ids.now (λ v. map answer_of v.items) (map job_of c.args.jobs.now) conn
    c.args.store.now c.run_jobs.new.store c.args.out.now c.run_jobs.new.w c.ask_about_ids.new.out c.run_jobs.result
    (Ok all) r.result
    (alike_ok (λ v. map answer_of v.items) (λ all. all) c.run_jobs.result (Ok all) answers all c.in_ok-answers.was refl
    refl) over went.ends went.goes went.fault (
      c.ask_about_ids.result,
      c.ask_about_ids.ensures,
      p.1 ∙ ap Err p.2 ∙ sym (ap (at_least (greatest all)) c.in_err-answer_status.was),
    )

pub returns : goal.returns
returns g c = λ conn over.
    let went = c.run_jobs.ensures in
    let answers = c.in_ok-answers.answers in
    let all : List machine.Answer = map answer_of answers.items in
    let status : c.greatest_status-status.result ≡ greatest all = c.greatest_status-status.ensures
    ∙ ap (λ (xs : List Answer). greatest (map answer_of xs)) c.as_slice.ensures.value in
    tried g.S.Store g.O.Sink c.args.zone c.args.ids.now (λ v. map answer_of v.items) (map job_of c.args.jobs.now) conn
    c.args.store.now c.run_jobs.new.store c.args.out.now c.run_jobs.new.w c.ask_about_ids.new.out c.run_jobs.result
    (Ok all) (Ok c.max.result)
    (alike_ok (λ v. map answer_of v.items) (λ all. all) c.run_jobs.result (Ok all) answers all c.in_ok-answers.was refl
    refl) over went.ends went.goes went.fault (
      c.ask_about_ids.result,
      c.ask_about_ids.ensures,
      ap (λ n. Ok n) (c.max.ensures ∙ ap (λ n. max n c.in_ok-answer_status.answer_status) status)
          ∙ sym (ap (at_least (greatest all)) c.in_ok-answer_status.was),
    )
