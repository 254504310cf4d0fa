use Rattle.clap.specs.Words.{found_of, rows_of}
use Rattle.smpe_invocation.proofs.Excluding.{handed_on, why_in}
use Rattle.smpe_invocation.proofs.invocation_reading.read_why_options.Goals as goal

pub returns-in_err-zone-clause-err : goal.returns-in_err-zone-clause-err
returns-in_err-zone-clause-err c =
    handed_on _ _ _ _ c.from_residual.ensures.1
    (λ has. let h = why_in (rows_of (found_of c.args.found.now)) has in (h.1.zone, h.2.1))
    c.in_err-zone.ensures.err

pub returns-in_err-ids-clause-err : goal.returns-in_err-ids-clause-err
returns-in_err-ids-clause-err c =
    handed_on _ _ _ _ c.from_residual-in_err-ids.ensures.1
    (λ has. let h = why_in (rows_of (found_of c.args.found.now)) has in (h.1.ids.items, h.2.2))
    c.in_err-ids.ensures.err

pub returns-in_err-db-clause-err : goal.returns-in_err-db-clause-err
returns-in_err-db-clause-err c =
    handed_on _ _ _ _ c.from_residual-in_err-db.ensures.1
    (λ has. let h = why_in (rows_of (found_of c.args.found.now)) has in (h.0, h.2.0))
    c.in_err-db.ensures.err
