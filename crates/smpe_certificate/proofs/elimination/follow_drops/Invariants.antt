use Rattle.std.proofs.Common.{◌-◌}
use Rattle.solve.specs.Parts.{count_of}
use Rattle.smpe_certificate.specs.Search.{Follows}
use Rattle.smpe_certificate.proofs.elimination.follow_drops.Given as goal

abbrev pub invariant-loop-followed : goal.invariant-loop-followed
invariant-loop-followed l = Follows l.system l.followed l.standing l.dropped.items

abbrev pub decreases-loop-followed : goal.decreases-loop-followed
decreases-loop-followed l = count_of l.system.eligible - l.followed
