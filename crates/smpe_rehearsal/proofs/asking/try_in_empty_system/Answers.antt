use Rattle.std.proofs.Common.{◌∙◌, List, Ok, Err, map, ap, refl}
use Rattle.std.proofs.lemmas.Result.{err_from_is_err_and}
use Rattle.machine.specs.Machine as machine
use Rattle.smpe_jobs.specs.Ending.{answer_of}
use Rattle.smpe_jobs.specs.declared.jobs.Answer.{Answer}
use Rattle.smpe_rehearsal.specs.ServiceSet.{greatest, set_jobs}
use Rattle.smpe_rehearsal.proofs.OneJob.{memory_as, alike_ok, alike_err}
use Rattle.smpe_rehearsal.proofs.asking.try_in_empty_system.Goals as goal

pub returns-in_err-answers : goal.returns-in_err-answers
returns-in_err-answers g c =
    let error = c.in_err-answers.field-0.0 in
    let p = err_from_is_err_and c.from_residual.result c.from_residual.ensures.1 in (
      c.args.rehearsal.now.date,
      Err error,
      memory_as (λ v. map answer_of v.items) (λ all. all) g.O.Sink c.args.out.now c.run_in_empty_system.new.out
          c.run_in_empty_system.result (Err error)
          (alike_err (λ v. map answer_of v.items) (λ all. all) c.run_in_empty_system.result (Err error) error error
          c.in_err-answers.was refl refl) (set_jobs c.args.srel c.args.rehearsal.now.date c.args.rehearsal.now.files.cntl.items (record { ptfin = c.args.rehearsal.now.files.ptfin.items; holds = c.args.rehearsal.now.files.hold.items })) c.run_in_empty_system.ensures,
      p.1 ∙ ap Err p.2,
    )

pub returns : goal.returns
returns g c =
    let answers = c.in_ok-answers.answers in
    let all : List machine.Answer = map answer_of answers.items in (
      c.args.rehearsal.now.date,
      Ok all,
      memory_as (λ v. map answer_of v.items) (λ all. all) g.O.Sink c.args.out.now c.run_in_empty_system.new.out
          c.run_in_empty_system.result (Ok all)
          (alike_ok (λ v. map answer_of v.items) (λ all. all) c.run_in_empty_system.result (Ok all) answers all
          c.in_ok-answers.was refl refl) (set_jobs c.args.srel c.args.rehearsal.now.date c.args.rehearsal.now.files.cntl.items (record { ptfin = c.args.rehearsal.now.files.ptfin.items; holds = c.args.rehearsal.now.files.hold.items })) c.run_in_empty_system.ensures,
      ap (λ n. Ok n) (c.greatest_status.ensures
          ∙ ap (λ (xs : List Answer). greatest (map answer_of xs)) c.as_slice.ensures.value),
    )
