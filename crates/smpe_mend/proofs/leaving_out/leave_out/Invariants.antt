use Rattle.std.proofs.Common.{◌≡◌, ◌-◌, length}
use Rattle.smpe_mend.specs.Runs.{asked_of}
use Rattle.smpe_mend.proofs.Leaving.{IsGone}
use Rattle.smpe_mend.proofs.leaving_out.leave_out.Given as goal

abbrev pub invariant-loop-course : goal.invariant-loop-course
invariant-loop-course l = record {
  same : l.global ≡ l.fn.global;
  gone : IsGone l.fn.global (asked_of l.broken) l.size (length l.fn.tried.actions.items) l.course;
}

abbrev pub decreases-loop-course : goal.decreases-loop-course
decreases-loop-course l = length l.course.tried.actions.items - l.course.place
