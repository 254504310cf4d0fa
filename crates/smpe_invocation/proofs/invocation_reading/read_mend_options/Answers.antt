use Rattle.std.proofs.Common.{map}
use Rattle.std.specs.String.{string_bytes}
use Rattle.clap.specs.Words.{found_of, rows_of}
use Rattle.smpe_invocation.proofs.Excluding.{handed_on, mend_in}
use Rattle.smpe_invocation.proofs.invocation_reading.read_mend_options.Goals as goal

pub returns-in_err-system-clause-err : goal.returns-in_err-system-clause-err
returns-in_err-system-clause-err c =
    handed_on _ _ _ _ c.from_residual.ensures.1
    (λ has. let h = mend_in (rows_of (found_of c.args.found.now)) has in (h.0, h.2.0))
    c.in_err-system.ensures.err

pub returns-in_err-ids-clause-err : goal.returns-in_err-ids-clause-err
returns-in_err-ids-clause-err c =
    handed_on _ _ _ _ c.from_residual-in_err-ids.ensures.1
    (λ has. let h = mend_in (rows_of (found_of c.args.found.now)) has in (h.1.ids.items, h.2.1))
    c.in_err-ids.ensures.err

pub returns-in_err-files-clause-err : goal.returns-in_err-files-clause-err
returns-in_err-files-clause-err c =
    handed_on _ _ _ _ c.from_residual-in_err-files.ensures.1
    (λ has. let h = mend_in (rows_of (found_of c.args.found.now)) has in (map string_bytes h.1.files.items, h.2.2))
    c.in_err-files.ensures.err
