use Rattle.std.proofs.Common.{◌≡◌, take}
use Rattle.sysmods.specs.Choices.{choice}
use Rattle.stream.specs.Comparing.{IsCompared}
use Rattle.stream.proofs.Comparing.{all_claims}
use Rattle.stream.proofs.unordered.unordered_pairs.Given as goal

-- the SYSMODs so far are compared
abbrev pub invariant-loop-id : goal.invariant-loop-id
invariant-loop-id l = record {
  same : l.overs ≡ l.vers;
  compared : IsCompared l.vers.global.now (choice l.vers)
      (all_claims l.vers.global.now (choice l.vers) (take l.id-index l.ids)) l.last l.found.items;
}
