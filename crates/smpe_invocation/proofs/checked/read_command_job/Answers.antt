use Rattle.std.proofs.Common.{rules}
use Rattle.clap.specs.Words.{found_of, rows_of}
use Rattle.smpe_invocation.proofs.Excluding.{handed_on, dated_in, named_in}
use Rattle.smpe_invocation.proofs.checked.read_command_job.Goals as goal

pub returns-in_err-date-clause-err : goal.returns-in_err-date-clause-err
returns-in_err-date-clause-err c =
    handed_on _ _ _ _ c.from_residual.ensures.1
    (dated_in (rows_of (found_of c.args.found.now)) (search rules))
    c.in_err-date.ensures.err

pub returns-in_err-cntl-clause-err : goal.returns-in_err-cntl-clause-err
returns-in_err-cntl-clause-err c =
    handed_on _ _ _ _ c.from_residual-in_err-cntl.ensures.1
    (named_in (rows_of (found_of c.args.found.now)) (search rules))
    c.in_err-cntl.ensures.err
