use Rattle.clap.specs.Words.{found_of, rows_of}
use Rattle.smpe_invocation.proofs.Excluding.{handed_on, empty_in}
use Rattle.smpe_invocation.proofs.checked.read_empty_system.Goals as goal

pub returns-in_err-srel-clause-err : goal.returns-in_err-srel-clause-err
returns-in_err-srel-clause-err c =
    handed_on _ _ _ _ c.from_residual.ensures.1
    (λ has. let h = empty_in (rows_of (found_of c.args.found.now)) c.requires has in (h.0, h.1.0))
    c.in_err-srel.ensures.err
