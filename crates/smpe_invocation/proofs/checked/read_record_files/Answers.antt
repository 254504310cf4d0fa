use Rattle.std.specs.String.{string_bytes}
use Rattle.clap.specs.Words.{found_of, rows_of}
use Rattle.smpe_invocation.proofs.Excluding.{handed_on, records_in}
use Rattle.smpe_invocation.proofs.checked.read_record_files.Goals as goal

pub returns-in_err-ptfin-clause-err : goal.returns-in_err-ptfin-clause-err
returns-in_err-ptfin-clause-err c =
    handed_on _ _ _ _ c.from_residual.ensures.1
    (λ has. let h = records_in (rows_of (found_of c.args.found.now)) c.requires has in (string_bytes h.0, h.2.0))
    c.in_err-ptfin.ensures.err
