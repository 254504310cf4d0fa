use Rattle.clap.specs.Words.{found_of, rows_of}
use Rattle.smpe_invocation.proofs.Excluding.{handed_on, zone_in}
use Rattle.smpe_invocation.proofs.invocation_reading.read_zone_options.Goals as goal

pub returns-in_err-name-clause-err : goal.returns-in_err-name-clause-err
returns-in_err-name-clause-err c =
    handed_on _ _ _ _ c.from_residual.ensures.1
    (λ has. let h = zone_in (rows_of (found_of c.args.found.now)) has in (h.1.name, h.2.1))
    c.in_err-name.ensures.err

pub returns-in_err-kind-clause-err : goal.returns-in_err-kind-clause-err
returns-in_err-kind-clause-err c =
    handed_on _ _ _ _ c.from_residual-in_err-kind.ensures.1
    (λ has. let h = zone_in (rows_of (found_of c.args.found.now)) has in (h.1.kind, h.2.2))
    c.in_err-kind.ensures.err

pub returns-in_err-srel-clause-err : goal.returns-in_err-srel-clause-err
returns-in_err-srel-clause-err c =
    handed_on _ _ _ _ c.from_residual-in_err-srel.ensures.1
    (λ has. let h = zone_in (rows_of (found_of c.args.found.now)) has in (h.1.srel, h.2.3))
    c.in_err-srel.ensures.err

pub returns-in_err-related-clause-err : goal.returns-in_err-related-clause-err
returns-in_err-related-clause-err c =
    handed_on _ _ _ _ c.from_residual-in_err-related.ensures.1
    (λ has. let h = zone_in (rows_of (found_of c.args.found.now)) has in (h.1.related, h.2.4))
    c.in_err-related.ensures.err

pub returns-in_err-db-clause-err : goal.returns-in_err-db-clause-err
returns-in_err-db-clause-err c =
    handed_on _ _ _ _ c.from_residual-in_err-db.ensures.1
    (λ has. let h = zone_in (rows_of (found_of c.args.found.now)) has in (h.0, h.2.0))
    c.in_err-db.ensures.err
