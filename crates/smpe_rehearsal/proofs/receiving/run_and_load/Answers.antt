use Rattle.std.proofs.Common.{◌≡◌, ◌∙◌, Ok, Err, List, map, ap, refl, sym}
use Rattle.std.proofs.lemmas.Result.{err_from_is_err_and}
use Rattle.machine.specs.Machine as machine
use Rattle.smpe_jobs.specs.Ending.{answer_of, job_of}
use Rattle.smpe_jobs.specs.declared.jobs.Answer.{Answer}
use Rattle.smpe_rehearsal.specs.Rehearsed.{rehearsed as rehearsed_as}
use Rattle.smpe_rehearsal.specs.ServiceSet.{greatest}
use Rattle.smpe_rehearsal.proofs.OneJob.{alike_ok, alike_err}
use Rattle.smpe_rehearsal.proofs.Afterwards.{rehearsed}
use Rattle.smpe_rehearsal.proofs.receiving.run_and_load.Goals as goal

pub returns-in_err-answers : goal.returns-in_err-answers
returns-in_err-answers g c = λ conn over.
    let went = c.run_jobs.ensures in
    let error = c.in_err-answers.field-0.0 in
    let p = err_from_is_err_and c.from_residual.result c.from_residual.ensures.1 in
    rehearsed g.S.Store c.args.zone (λ v. map answer_of v.items) (map job_of c.args.jobs.now) conn c.args.store.now
    c.run_jobs.new.store c.run_jobs.new.w c.run_jobs.new.w c.run_jobs.result (Err error) c.from_residual.result
    (alike_err (λ v. map answer_of v.items) (λ all. all) c.run_jobs.result (Err error) error error c.in_err-answers.was
    refl refl) over went.ends went.goes (p.1 ∙ ap Err p.2)

pub returns-in_err-zones : goal.returns-in_err-zones
returns-in_err-zones g c = λ conn over.
    let went = c.run_jobs.ensures in
    let answers = c.in_ok-answers.answers in
    let all : List machine.Answer = map answer_of answers.items in
    let r = c.from_residual-in_err-zones in
    let p = err_from_is_err_and r.result r.ensures.1 in
    rehearsed g.S.Store c.args.zone (λ v. map answer_of v.items) (map job_of c.args.jobs.now) conn c.args.store.now
    c.run_jobs.new.store c.run_jobs.new.w c.run_jobs.new.w c.run_jobs.result (Ok all) r.result
    (alike_ok (λ v. map answer_of v.items) (λ all. all) c.run_jobs.result (Ok all) answers all c.in_ok-answers.was refl
    refl) over went.ends went.goes (
      c.load_zones.result,
      c.load_zones.new.store,
      c.load_zones.ensures,
      p.1 ∙ ap Err p.2 ∙ sym (ap (rehearsed_as (greatest all)) c.in_err-zones.was),
    )

pub returns : goal.returns
returns g c = λ conn over.
    let went = c.run_jobs.ensures in
    let answers = c.in_ok-answers.answers in
    let all : List machine.Answer = map answer_of answers.items in
    let status : c.greatest_status-status.result ≡ greatest all = c.greatest_status-status.ensures
    ∙ ap (λ (xs : List Answer). greatest (map answer_of xs)) c.as_slice.ensures.value in
    rehearsed g.S.Store c.args.zone (λ v. map answer_of v.items) (map job_of c.args.jobs.now) conn c.args.store.now
    c.run_jobs.new.store c.run_jobs.new.w c.run_jobs.new.w c.run_jobs.result (Ok all)
    (Ok (record { zones = c.in_ok-zones.zones; status = c.greatest_status-status.result }))
    (alike_ok (λ v. map answer_of v.items) (λ all. all) c.run_jobs.result (Ok all) answers all c.in_ok-answers.was refl
    refl) over went.ends went.goes (
      c.load_zones.result,
      c.load_zones.new.store,
      c.load_zones.ensures,
      ap (λ n. Ok (record { zones = c.in_ok-zones.zones; status = n })) status
          ∙ sym (ap (rehearsed_as (greatest all)) c.in_ok-zones.was),
    )
