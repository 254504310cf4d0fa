use Rattle.std.specs.String.{string_bytes}
use Rattle.smpe_invocation.proofs.Excluding.{handed_on}
use Rattle.smpe_invocation.proofs.option_values.read_database.Goals as goal

pub returns-in_err-wait-clause-err : goal.returns-in_err-wait-clause-err
returns-in_err-wait-clause-err c =
    handed_on _ _ _ _ c.from_residual.ensures.1
    (λ has. (has.0.wait, has.1.1))
    c.in_err-wait.ensures.err

pub returns-in_err-name-clause-err : goal.returns-in_err-name-clause-err
returns-in_err-name-clause-err c =
    handed_on _ _ _ _ c.from_residual-in_err-name.ensures.1
    (λ has. (string_bytes has.0.name, has.1.0))
    c.in_err-name.ensures.err
