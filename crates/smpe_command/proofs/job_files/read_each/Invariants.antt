use Rattle.std.proofs.Common.{Ok, Some, map, take}
use Rattle.std.specs.String.{string_bytes}
use Rattle.smpe_command.specs.Reading.{ReadsAll}
use Rattle.smpe_command.proofs.job_files.read_each.Given as goal

abbrev pub invariant-loop-name : goal.invariant-loop-name
invariant-loop-name g l =
    ReadsAll g.H.Host l.fn.host (map (λ name. Some (string_bytes name)) (take l.name-index l.names))
    (Ok (map (λ file. file.items) l.files.items)) l.host
