use Rattle.std.proofs.Common.{◌≡◌, Ok, ap, refl, subst}
use Rattle.std.specs.String.{string_bytes}
use Rattle.std.proofs.lemmas.Result.{err_from_is_err_and}
use Rattle.machine.specs.Machine as machine
use Rattle.machine.specs.Machine.{RunFiles}
use Rattle.smpe_command.specs.Database.{JobOver}
use Rattle.smpe_command.proofs.jobs.run_job_over_files.Given.{Over}
use Rattle.smpe_command.proofs.jobs.run_job_over_files.Goals.{After-run_job_in_database}
use Rattle.smpe_command.proofs.jobs.run_job_over_files.Goals as goal

ran : (g : Over) (c : After-run_job_in_database g) → JobOver g.H.Host g.H.Disk.Store g.O.Sink c.args.host.now
    (string_bytes c.args.db.now.name)
    (RunFiles c.args.date c.args.files.now.cntl.items (record {
      ptfin = c.args.files.now.ptfin.items;
      holds = c.args.files.now.hold.items;
    })) c.args.out.now c.run_job_in_database.result c.run_job_in_database.new.host c.run_job_in_database.new.out
ran g c =
    let job : RunFiles c.args.date c.as_slice.result.now (record {
      ptfin = c.as_slice-2.result.now;
      holds = c.as_slice-3.result.now;
    }) ≡ RunFiles c.args.date c.args.files.now.cntl.items (record {
      ptfin = c.args.files.now.ptfin.items;
      holds = c.args.files.now.hold.items;
    }) = rw (c.as_slice.ensures.value, c.as_slice-2.ensures.value, c.as_slice-3.ensures.value) refl in
    subst (λ (job : machine.Job). JobOver g.H.Host g.H.Disk.Store g.O.Sink c.args.host.now
    (string_bytes c.args.db.now.name) job
    c.args.out.now c.run_job_in_database.result c.run_job_in_database.new.host c.run_job_in_database.new.out) job
    c.run_job_in_database.ensures

pub returns-in_err-answer : goal.returns-in_err-answer
returns-in_err-answer g c =
    let p = err_from_is_err_and c.from_residual.result c.from_residual.ensures.1 in (
      c.run_job_in_database.result,
      ran g (goal.at.returns-in_err-answer g c).After-run_job_in_database,
      rw (p.1, p.2, c.in_err-answer.was) refl,
    )

pub returns : goal.returns
returns g c = (
  c.run_job_in_database.result,
  ran g (goal.at.returns g c).After-run_job_in_database,
  rw c.in_ok-answer.was (ap (λ status. Ok status) c.status_of.ensures),
)
