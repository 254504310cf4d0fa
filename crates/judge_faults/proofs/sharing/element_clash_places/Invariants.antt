use Rattle.std.proofs.Common.{◌≡◌, ◌≤◌, ◌-◌, ℕ, Contains, length, take}
use Rattle.std.specs.Prelude.{◌↔◌}
use Rattle.sysmods.specs.Choices.{choice}
use Rattle.judge_faults.specs.Sharing.{IsAmong, ClashesOnOne}
use Rattle.judge_faults.proofs.Runs.{IsSplit}
use Rattle.judge_faults.proofs.sharing.element_clash_places.Given as goal

abbrev pub invariant-loop-start : goal.invariant-loop-start
invariant-loop-start l = record {
  same : l.overs ≡ l.fn.overs;
  within : l.start ≤ length l.claims;
  split : IsSplit l.claims l.start;
  marks : (n : ℕ) → Contains l.marked.keys n ↔ IsAmong (ClashesOnOne l.fn.overs.global.now (choice l.fn.overs))
      (take l.start l.claims) n;
}

abbrev pub decreases-loop-start : goal.decreases-loop-start
decreases-loop-start l = length l.claims - l.start
