use Rattle.smpe_invocation.proofs.Excluding.{handed_on}
use Rattle.smpe_invocation.proofs.checked.read_service_set.Goals as goal

pub returns-in_err-commands-clause-err : goal.returns-in_err-commands-clause-err
returns-in_err-commands-clause-err c =
    handed_on _ _ _ _ c.from_residual.ensures.1
    (λ has. (has.0.commands, has.1.1))
    c.in_err-commands.ensures.err

pub returns-in_err-files-clause-err : goal.returns-in_err-files-clause-err
returns-in_err-files-clause-err c =
    handed_on _ _ _ _ c.from_residual-in_err-files.ensures.1
    (λ has. (has.0.files, has.1.0))
    c.in_err-files.ensures.err
