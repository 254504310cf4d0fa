use Rattle.std.proofs.Common.{◌≡◌, ◌++◌, List, map, take}
use Rattle.terms.specs.Stream.{IsInStream}
use Rattle.sysmods.specs.Choices.{choice}
use Rattle.stream.specs.Comparing.{Claim, claim_of, AreBefore, IsCompared}
use Rattle.stream.proofs.unordered.compare_changes.Given as goal

-- the statements so far are compared
abbrev pub invariant-loop-change : goal.invariant-loop-change
invariant-loop-change l = record {
  same : l.overs ≡ l.fn.overs;
  compared : (claims : List Claim) → IsInStream (choice l.fn.overs) l.id → AreBefore (choice l.fn.overs) l.id claims
      → IsCompared l.fn.overs.global.now (choice l.fn.overs) claims l.fn.last l.fn.found.items
      → IsCompared l.fn.overs.global.now (choice l.fn.overs)
      (claims ++ map (claim_of l.fn.overs.global.now (choice l.fn.overs) l.id) (take l.change-index l.changes)) l.last
      l.found.items;
}
