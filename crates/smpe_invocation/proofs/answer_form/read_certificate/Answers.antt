use Rattle.std.proofs.Common.{rules}
use Rattle.clap.specs.Words.{found_of, rows_of}
use Rattle.smpe_invocation.proofs.Excluding.{handed_on, certified_in}
use Rattle.smpe_invocation.proofs.answer_form.read_certificate.Goals as goal

pub returns-in_err-name-clause-err : goal.returns-in_err-name-clause-err
returns-in_err-name-clause-err c =
    handed_on _ _ _ _ c.from_residual.ensures.1
    (certified_in (rows_of (found_of c.args.found.now)) (search rules))
    c.in_err-name.ensures.err
