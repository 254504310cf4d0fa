use Rattle.std.proofs.Common.{◌≤◌}
use Rattle.smpe_certificate.specs.Search.{IsSearch}
use Rattle.smpe_certificate.proofs.elimination.settle_all.Given as goal

abbrev pub invariant-loop-place : goal.invariant-loop-place
invariant-loop-place l = IsSearch l.system (λ k. l.place ≤ k) 0 l.standing l.dropped.items
