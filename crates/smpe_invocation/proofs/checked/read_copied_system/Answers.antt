use Rattle.clap.specs.Words.{found_of, rows_of}
use Rattle.smpe_invocation.proofs.Excluding.{handed_on, copied_in}
use Rattle.smpe_invocation.proofs.checked.read_copied_system.Goals as goal

pub returns-in_err-ids-clause-err : goal.returns-in_err-ids-clause-err
returns-in_err-ids-clause-err c =
    handed_on _ _ _ _ c.from_residual.ensures.1
    (λ has. let h = copied_in (rows_of (found_of c.args.found.now)) c.requires has in (h.0.ids.items, h.1.1))
    c.in_err-ids.ensures.err

pub returns-in_err-copy-clause-err : goal.returns-in_err-copy-clause-err
returns-in_err-copy-clause-err c =
    handed_on _ _ _ _ c.from_residual-in_err-copy.ensures.1
    (λ has. let h = copied_in (rows_of (found_of c.args.found.now)) c.requires has in (h.0, h.1.0))
    c.in_err-copy.ensures.err
