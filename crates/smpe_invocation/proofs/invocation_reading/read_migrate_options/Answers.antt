use Rattle.clap.specs.Words.{found_of, rows_of}
use Rattle.smpe_invocation.proofs.Excluding.{handed_on, migrate_in}
use Rattle.smpe_invocation.proofs.invocation_reading.read_migrate_options.Goals as goal

pub returns-in_err-db-clause-err : goal.returns-in_err-db-clause-err
returns-in_err-db-clause-err c =
    handed_on _ _ _ _ c.from_residual.ensures.1
    (λ has. let h = migrate_in (rows_of (found_of c.args.found.now)) has in (h.0, h.1))
    c.in_err-db.ensures.err
