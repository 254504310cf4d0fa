use Rattle.std.proofs.Common.{◌≡◌, map, take}
use Rattle.std.specs.List.{flat_map}
use Rattle.intake_command.specs.Done.{HasDone}
use Rattle.intake_command.specs.Serving.{are_apart}
use Rattle.intake_command.proofs.apart.check_inputs.Given as goal

abbrev pub invariant-loop-input : goal.invariant-loop-input
invariant-loop-input g l =
    HasDone g.H.IntakeHost (λ acts. acts ≡ flat_map (are_apart l.folder (map (λ n. n.now) l.outputs))
    (map (λ n. n.now) (take l.input-index l.names)))
    l.fn.host l.host
