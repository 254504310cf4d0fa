use Rattle.std.proofs.Common.{◌≡◌, take}
use Rattle.sysmods.specs.Choices.{choice}
use Rattle.judge_faults.specs.Sharing.{AreMarked}
use Rattle.judge_faults.proofs.sharing.mark_clashes.Given as goal

abbrev pub invariant-loop-claim : goal.invariant-loop-claim
invariant-loop-claim l = record {
  same : l.overs ≡ l.fn.overs;
  marked : AreMarked l.fn.overs.global.now (choice l.fn.overs) (take l.claim-index l.claims)
      l.claimants.chain.items l.claimants.others.items l.claimants.are_marked l.fn.marked.keys l.marked.keys;
}
