use Rattle.std.proofs.Common.{◌≡◌, ◌≤◌, ◌-◌, length, take}
use Rattle.std.specs.Prelude.{All}
use Rattle.sysmods.specs.Choices.{choice}
use Rattle.judge_faults.specs.Sharing.{IsBelow, IsChain}
use Rattle.judge_faults.proofs.chains.search_place.Given as goal

-- the claim is over all in front of the lower end
abbrev pub invariant-loop-low : goal.invariant-loop-low
invariant-loop-low l = record {
  same : l.overs ≡ l.fn.overs;
  ordered : l.low ≤ l.high;
  within : l.high ≤ length l.chain;
  front : IsChain l.fn.overs.global.now (choice l.fn.overs) l.chain
      → All (λ b. IsBelow l.fn.overs.global.now (choice l.fn.overs) b l.claim) (take l.low l.chain);
}

abbrev pub decreases-loop-low : goal.decreases-loop-low
decreases-loop-low l = l.high - l.low
