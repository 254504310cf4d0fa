use Rattle.std.proofs.Common.{◌≡◌, map, take}
use Rattle.intake_command.specs.Done.{HasDone}
use Rattle.intake_command.specs.Serving.{looks}
use Rattle.intake_command.proofs.own.check_files.Given as goal

abbrev pub invariant-loop-name : goal.invariant-loop-name
invariant-loop-name g l =
    HasDone g.H.IntakeHost (λ acts. acts ≡ looks l.folder (map (λ n. n.now) l.written)
    (map (λ n. n.now) (take l.name-index l.names)))
    l.fn.host l.host
