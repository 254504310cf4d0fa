use Rattle.std.proofs.Common.{◌≡◌, ◌≤◌, ◌<◌, ◌-◌, ℕ, Some, length, slice_get}
use Rattle.judge_faults.specs.declared.claims.Claim.{Claim}
use Rattle.judge_faults.proofs.sharing.run_end.Given as goal

-- what has been gone through is on one element
abbrev pub invariant-loop-end : goal.invariant-loop-end
invariant-loop-end l = record {
  more : l.start < l.end;
  within : l.end ≤ length l.claims;
  same : (i : ℕ) (a : Claim) → slice_get l.claims i ≡ Some a → l.start ≤ i → i < l.end → a.element ≡ l.first.element;
}

abbrev pub decreases-loop-end : goal.decreases-loop-end
decreases-loop-end l = length l.claims - l.end
