use Rattle.std.proofs.Common.{sym, subst}
use Rattle.std.specs.String.{string_bytes}
use Rattle.sqlite_disk.specs.contracts.memory.MemoryDisk.TheImpl.{ghosts as memory_disk}
use Rattle.smpe_command.specs.Serving.{Serves, ServesList}
use Rattle.smpe_command.proofs.jobs.serve.Goals as goal

pub returns-in-Zone : goal.returns-in-Zone
returns-in-Zone g c =
    subst (λ asked. Serves g.H.Host g.H.Disk.Store memory_disk g.O.Sink c.args.host.now asked c.args.out.now
    c.status_or_fault.result
    c.serve_zone.new.host c.serve_zone.new.out) (sym c.in-Zone.is) (
      c.serve_zone.result,
      c.serve_zone.ensures,
      c.status_or_fault.ensures,
    )

pub returns-in-Run : goal.returns-in-Run
returns-in-Run g c =
    subst (λ asked. Serves g.H.Host g.H.Disk.Store memory_disk g.O.Sink c.args.host.now asked c.args.out.now
    c.serve_run.result
    c.serve_run.new.host c.serve_run.new.out) (sym c.in-Run.is) c.serve_run.ensures

pub returns-in-List : goal.returns-in-List
returns-in-List g c =
    let w = c.in-List in
    subst (λ asked. Serves g.H.Host g.H.Disk.Store memory_disk g.O.Sink c.args.host.now asked c.args.out.now
    c.status_or_fault-in-List.result c.serve_list.new.host c.serve_list.new.out) (sym w.is)
    (subst (λ r. ServesList g.H.Host g.H.Disk.Store g.O.Sink c.args.host.now (string_bytes w.db.name) c.args.out.now
    w.zone r c.serve_list.new.host c.serve_list.new.out) (sym c.status_or_fault-in-List.ensures) c.serve_list.ensures)

pub returns-in-Why : goal.returns-in-Why
returns-in-Why g c =
    subst (λ asked. Serves g.H.Host g.H.Disk.Store memory_disk g.O.Sink c.args.host.now asked c.args.out.now
    c.serve_why.result c.serve_why.new.host c.serve_why.new.out) (sym c.in-Why.is) c.serve_why.ensures

pub returns-in-Check : goal.returns-in-Check
returns-in-Check g c =
    subst (λ asked. Serves g.H.Host g.H.Disk.Store memory_disk g.O.Sink c.args.host.now asked c.args.out.now
    c.serve_check.result c.serve_check.new.host c.serve_check.new.out) (sym c.in-Check.is) c.serve_check.ensures

pub returns-in-Mend : goal.returns-in-Mend
returns-in-Mend g c =
    subst (λ asked. Serves g.H.Host g.H.Disk.Store memory_disk g.O.Sink c.args.host.now asked c.args.out.now
    c.serve_mend.result c.serve_mend.new.host c.serve_mend.new.out) (sym c.in-Mend.is) c.serve_mend.ensures

pub returns-in-Lint : goal.returns-in-Lint
returns-in-Lint g c =
    subst (λ asked. Serves g.H.Host g.H.Disk.Store memory_disk g.O.Sink c.args.host.now asked c.args.out.now
    c.serve_lint.result c.serve_lint.new.host c.serve_lint.new.out) (sym c.in-Lint.is) c.serve_lint.ensures

pub returns-in-Migrate : goal.returns-in-Migrate
returns-in-Migrate g c =
    subst (λ asked. Serves g.H.Host g.H.Disk.Store memory_disk g.O.Sink c.args.host.now asked c.args.out.now
    c.status_or_fault-in-Migrate.result c.serve_migrate.new.host c.serve_migrate.new.out) (sym c.in-Migrate.is)
    (c.serve_migrate.result, c.serve_migrate.ensures, c.status_or_fault-in-Migrate.ensures)

pub returns-in-Verify : goal.returns-in-Verify
returns-in-Verify g c =
    subst (λ asked. Serves g.H.Host g.H.Disk.Store memory_disk g.O.Sink c.args.host.now asked c.args.out.now
    c.status_or_fault-in-Verify.result c.serve_verify.new.host c.serve_verify.new.out) (sym c.in-Verify.is)
    (c.serve_verify.result, c.serve_verify.ensures, c.status_or_fault-in-Verify.ensures)
