use Rattle.std.proofs.Common.{◌≡◌, take}
use Rattle.sysmods.specs.Choices.{choice}
use Rattle.judge_faults.specs.Sharing.{Marks, IsAgainst}
use Rattle.judge_faults.proofs.sharing.mark_until_settled.Given as goal

abbrev pub invariant-loop-other : goal.invariant-loop-other
invariant-loop-other l = record {
  same : l.overs ≡ l.fn.overs;
  marks : Marks (IsAgainst l.fn.overs.global.now (choice l.fn.overs) l.claim (take l.other-index l.others))
      l.fn.marked.keys l.marked.keys;
}
