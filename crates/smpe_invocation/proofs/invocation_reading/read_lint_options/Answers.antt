use Rattle.std.proofs.Common.{map}
use Rattle.std.specs.String.{string_bytes}
use Rattle.clap.specs.Words.{found_of, rows_of}
use Rattle.smpe_invocation.proofs.Excluding.{handed_on, lint_in}
use Rattle.smpe_invocation.proofs.invocation_reading.read_lint_options.Goals as goal

pub returns-in_err-srel-clause-err : goal.returns-in_err-srel-clause-err
returns-in_err-srel-clause-err c =
    handed_on _ _ _ _ c.from_residual.ensures.1
    (λ has. let h = lint_in (rows_of (found_of c.args.found.now)) has in (h.0.srel, h.1.0))
    c.in_err-srel.ensures.err

pub returns-in_err-form-clause-err : goal.returns-in_err-form-clause-err
returns-in_err-form-clause-err c =
    handed_on _ _ _ _ c.from_residual-in_err-form.ensures.1
    (λ has. let h = lint_in (rows_of (found_of c.args.found.now)) has in (h.0.form, h.1.1))
    c.in_err-form.ensures.err

pub returns-in_err-files-clause-err : goal.returns-in_err-files-clause-err
returns-in_err-files-clause-err c =
    handed_on _ _ _ _ c.from_residual-in_err-files.ensures.1
    (λ has. let h = lint_in (rows_of (found_of c.args.found.now)) has in (map string_bytes h.0.files.items, h.1.2))
    c.in_err-files.ensures.err
