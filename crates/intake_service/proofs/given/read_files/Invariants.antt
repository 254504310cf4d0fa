use Rattle.std.proofs.Common.{◌≡◌, length}
use Rattle.intake_service.proofs.given.read_files.Given as goal

abbrev pub invariant-loop-file : goal.invariant-loop-file
invariant-loop-file l = length l.stated ≡ l.file-index
