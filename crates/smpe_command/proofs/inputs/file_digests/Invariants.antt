use Rattle.std.proofs.Common.{◌≡◌, map, take, length}
use Rattle.std.specs.String.{string_bytes}
use Rattle.smpe_certificate.specs.Views.{digest_view}
use Rattle.smpe_command.specs.Packages.{inputs_of}
use Rattle.smpe_command.proofs.inputs.file_digests.Given as goal

abbrev pub invariant-loop-file : goal.invariant-loop-file
invariant-loop-file l = (map digest_view l.digests.items
    ≡ inputs_of (map string_bytes l.names) (map (λ file. file.items) (take l.file-index l.files)))
    × (length l.digests.items ≡ l.file-index)
