use Rattle.std.specs.String.{string_bytes}
use Rattle.clap.specs.Words.{found_of, rows_of}
use Rattle.smpe_invocation.proofs.Excluding.{handed_on, run_in}
use Rattle.smpe_invocation.proofs.invocation_reading.read_run_options.Goals as goal

pub returns-in_err-date-clause-err : goal.returns-in_err-date-clause-err
returns-in_err-date-clause-err c =
    handed_on _ _ _ _ c.from_residual.ensures.1
    (λ has. let h = run_in (rows_of (found_of c.args.found.now)) has in (h.1.date, h.2.1))
    c.in_err-date.ensures.err

pub returns-in_err-db-clause-err : goal.returns-in_err-db-clause-err
returns-in_err-db-clause-err c =
    handed_on _ _ _ _ c.from_residual-in_err-db.ensures.1
    (λ has. let h = run_in (rows_of (found_of c.args.found.now)) has in (h.0, h.2.0))
    c.in_err-db.ensures.err

pub returns-in_err-cntl-clause-err : goal.returns-in_err-cntl-clause-err
returns-in_err-cntl-clause-err c =
    handed_on _ _ _ _ c.from_residual-in_err-cntl.ensures.1
    (λ has. let h = run_in (rows_of (found_of c.args.found.now)) has in (string_bytes h.1.cntl, h.2.2))
    c.in_err-cntl.ensures.err
