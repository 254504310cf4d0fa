use Rattle.std.proofs.Common.{◌≡◌, map, take}
use Rattle.smpe_command.proofs.carry.given_files.Given as goal

abbrev pub invariant-loop-file : goal.invariant-loop-file
invariant-loop-file l =
    map (λ file. file.bytes.now) l.given.items ≡ map (λ file. file.items) (take l.file-index l.files)
