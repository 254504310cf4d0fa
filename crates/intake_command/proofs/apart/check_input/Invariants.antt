use Rattle.std.proofs.Common.{◌≡◌, map, take}
use Rattle.std.specs.List.{flat_map}
use Rattle.intake_command.specs.Done.{HasDone}
use Rattle.intake_command.specs.Serving.{is_apart}
use Rattle.intake_command.proofs.apart.check_input.Given as goal

abbrev pub invariant-loop-output : goal.invariant-loop-output
invariant-loop-output g l =
    HasDone g.H.IntakeHost (λ acts. acts ≡ flat_map (is_apart l.folder l.input)
    (map (λ n. n.now) (take l.output-index l.outputs)))
    l.fn.host l.host
