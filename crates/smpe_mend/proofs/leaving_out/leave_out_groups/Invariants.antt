use Rattle.std.proofs.Common.{◌≡◌}
use Rattle.smpe_mend.specs.Runs.{asked_of}
use Rattle.smpe_mend.specs.Growth.{Repairs}
use Rattle.smpe_mend.proofs.leaving_out.leave_out_groups.Given as goal

abbrev pub invariant-loop-size : goal.invariant-loop-size
invariant-loop-size l = record {
  same : l.global ≡ l.fn.global;
  repairs : Repairs l.fn.global (asked_of l.broken) l.tried;
}

abbrev pub decreases-loop-size : goal.decreases-loop-size
decreases-loop-size l = l.size
