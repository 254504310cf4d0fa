use Rattle.std.proofs.Common.{◌∙◌, List, Ok, Err, map, ap, refl}
use Rattle.std.proofs.lemmas.Result.{err_from_is_err_and}
use Rattle.machine.specs.Machine as machine
use Rattle.smpe_jobs.specs.Ending.{answer_of}
use Rattle.smpe_jobs.specs.declared.jobs.Answer.{Answer}
use Rattle.smpe_rehearsal.specs.ServiceSet.{greatest}
use Rattle.smpe_rehearsal.proofs.OneJob.{tries_as, alike_ok, alike_err}
use Rattle.smpe_command.proofs.checks.check_in_system.Goals as goal

pub returns-in_err-answers-in-Empty : goal.returns-in_err-answers-in-Empty
returns-in_err-answers-in-Empty g c =
    let error = c.in_err-answers-in-Empty.field-0.0 in
    let p = err_from_is_err_and c.from_residual.result c.from_residual.ensures.1 in
    rw c.in-Empty.is (
      (
        Err error,
        tries_as (λ v. map answer_of v.items) (λ all. all) g.O.Sink c.args.out.now c.rehearse_in_empty_system.new.out
            c.rehearse_in_empty_system.result
            (Err error)
            (alike_err (λ v. map answer_of v.items) (λ all. all) c.rehearse_in_empty_system.result (Err error) error
            error c.in_err-answers-in-Empty.was refl refl)
            c.in-Empty.srel c.args.commands.now c.args.files.cntl.items _ c.rehearse_in_empty_system.ensures,
        p.1 ∙ ap Err p.2,
      ),
      refl,
    )

pub returns-in_ok-answers-in-Empty : goal.returns-in_ok-answers-in-Empty
returns-in_ok-answers-in-Empty g c =
    let answers = c.in_ok-answers-in-Empty.answers in
    let all : List machine.Answer = map answer_of answers.items in
    rw c.in-Empty.is (
      (
        Ok all,
        tries_as (λ v. map answer_of v.items) (λ all. all) g.O.Sink c.args.out.now c.rehearse_in_empty_system.new.out
            c.rehearse_in_empty_system.result
            (Ok all)
            (alike_ok (λ v. map answer_of v.items) (λ all. all) c.rehearse_in_empty_system.result (Ok all) answers all
            c.in_ok-answers-in-Empty.was refl refl)
            c.in-Empty.srel c.args.commands.now c.args.files.cntl.items _ c.rehearse_in_empty_system.ensures,
        ap (λ n. Ok n) (c.greatest_status.ensures
            ∙ ap (λ (xs : List Answer). greatest (map answer_of xs)) c.as_slice.ensures.value),
      ),
      refl,
    )
