use Rattle.std.proofs.Common.{◌≡◌, false, take}
use Rattle.std.specs.List.{All}
use Rattle.solve.specs.System.{holds}
use Rattle.smpe_certificate.proofs.served.first_kept.Given as goal

abbrev pub invariant-loop-y : goal.invariant-loop-y
invariant-loop-y l = All (λ y. holds l.kept y ≡ false) (take l.y-index l.any)
