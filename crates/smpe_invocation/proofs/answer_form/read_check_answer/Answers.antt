use Rattle.std.proofs.Common.{option_map}
use Rattle.std.specs.String.{string_bytes}
use Rattle.smpe_invocation.proofs.Excluding.{handed_on}
use Rattle.smpe_invocation.proofs.answer_form.read_check_answer.Goals as goal

pub returns-in_err-form-clause-err : goal.returns-in_err-form-clause-err
returns-in_err-form-clause-err c =
    handed_on _ _ _ _ c.from_residual.ensures.1
    (λ has. (has.0.form, has.1.0))
    c.in_err-form.ensures.err

pub returns-in_err-certificate-clause-err : goal.returns-in_err-certificate-clause-err
returns-in_err-certificate-clause-err c =
    handed_on _ _ _ _ c.from_residual-in_err-certificate.ensures.1
    (λ has. (option_map string_bytes has.0.certificate, has.1.1))
    c.in_err-certificate.ensures.err
