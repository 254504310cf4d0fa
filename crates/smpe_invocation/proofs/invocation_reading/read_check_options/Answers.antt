use Rattle.clap.specs.Words.{found_of, rows_of}
use Rattle.smpe_invocation.proofs.Excluding.{handed_on, check_in}
use Rattle.smpe_invocation.proofs.invocation_reading.read_check_options.Goals as goal

pub returns-in_err-system-clause-err : goal.returns-in_err-system-clause-err
returns-in_err-system-clause-err c =
    handed_on _ _ _ _ c.from_residual.ensures.1
    (λ has. let h = check_in (rows_of (found_of c.args.found.now)) has in (h.0, h.3.0))
    c.in_err-system.ensures.err

pub returns-in_err-set-clause-err : goal.returns-in_err-set-clause-err
returns-in_err-set-clause-err c =
    handed_on _ _ _ _ c.from_residual-in_err-set.ensures.1
    (λ has. let h = check_in (rows_of (found_of c.args.found.now)) has in (h.1, h.3.1))
    c.in_err-set.ensures.err

pub returns-in_err-answer-clause-err : goal.returns-in_err-answer-clause-err
returns-in_err-answer-clause-err c =
    handed_on _ _ _ _ c.from_residual-in_err-answer.ensures.1
    (λ has. let h = check_in (rows_of (found_of c.args.found.now)) has in (h.2, h.3.2))
    c.in_err-answer.ensures.err
