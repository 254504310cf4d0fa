use Rattle.std.proofs.Common.{map}
use Rattle.std.specs.String.{string_bytes}
use Rattle.clap.specs.Words.{found_of, rows_of}
use Rattle.smpe_invocation.proofs.Excluding.{handed_on, as_they_come_in}
use Rattle.smpe_invocation.proofs.checked.read_files_as_they_come.Goals as goal

pub returns-in_err-files-clause-err : goal.returns-in_err-files-clause-err
returns-in_err-files-clause-err c =
    handed_on _ _ _ _ c.from_residual.ensures.1
    (λ has. let h = as_they_come_in (rows_of (found_of c.args.found.now)) c.requires has in
    (map string_bytes h.0.items, h.1.0))
    c.in_err-files.ensures.err
