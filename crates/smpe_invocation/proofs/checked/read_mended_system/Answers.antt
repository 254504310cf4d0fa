use Rattle.std.proofs.Common.{rules}
use Rattle.clap.specs.Words.{found_of, rows_of}
use Rattle.smpe_invocation.proofs.Excluding.{handed_on, mended_copy_in, mended_empty_in}
use Rattle.smpe_invocation.proofs.checked.read_mended_system.Goals as goal

pub returns-in_err-srel-clause-err : goal.returns-in_err-srel-clause-err
returns-in_err-srel-clause-err c =
    handed_on _ _ _ _ c.from_residual.ensures.1
    (mended_empty_in (rows_of (found_of c.args.found.now)) (search rules))
    c.in_err-srel.ensures.err

pub returns-in_err-copy-clause-err : goal.returns-in_err-copy-clause-err
returns-in_err-copy-clause-err c =
    handed_on _ _ _ _ c.from_residual-in_err-copy.ensures.1
    (mended_copy_in (rows_of (found_of c.args.found.now)) (search rules))
    c.in_err-copy.ensures.err
