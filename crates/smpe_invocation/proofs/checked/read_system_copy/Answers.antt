use Rattle.smpe_invocation.proofs.Excluding.{handed_on}
use Rattle.smpe_invocation.proofs.checked.read_system_copy.Goals as goal

pub returns-in_err-zone-clause-err : goal.returns-in_err-zone-clause-err
returns-in_err-zone-clause-err c =
    handed_on _ _ _ _ c.from_residual.ensures.1
    (λ has. (has.0.zone, has.1.1))
    c.in_err-zone.ensures.err

pub returns-in_err-db-clause-err : goal.returns-in_err-db-clause-err
returns-in_err-db-clause-err c =
    handed_on _ _ _ _ c.from_residual-in_err-db.ensures.1
    (λ has. (has.0.db, has.1.0))
    c.in_err-db.ensures.err
