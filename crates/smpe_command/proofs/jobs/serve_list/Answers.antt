use Rattle.std.proofs.Common.{◌≡◌, [], inr, refl, subst}
use Rattle.std.specs.String.{string_bytes}
use Rattle.smpe_jobs.specs.ListJob.{list_records}
use Rattle.machine.specs.Machine as machine
use Rattle.machine.specs.Machine.{RunFiles}
use Rattle.smpe_command.specs.Database.{JobOver}
use Rattle.smpe_command.proofs.jobs.serve_list.Goals as goal

pub returns : goal.returns
returns g c =
    let ran = c.run_job_over_files.ensures in
    let job : RunFiles c.any_date.result c.in_ok-listing_commands.field-0.items (record {
      ptfin = c.new.result.items;
      holds = c.new-2.result.items;
    }) ≡ RunFiles c.any_date.result (list_records c.args.zone) (record { ptfin = []; holds = [] }) =
    rw (c.in_ok-listing_commands.ensures.records, c.new.ensures.items, c.new-2.ensures.items) refl in
    inr (
      c.any_date.result,
      ran.0,
      subst (λ (job : machine.Job). JobOver g.H.Host g.H.Disk.Store g.O.Sink c.args.host.now
          (string_bytes c.args.db.now.name) job
          c.args.out.now ran.0 c.run_job_over_files.new.host c.run_job_over_files.new.out) job ran.1,
      ran.2,
    )
