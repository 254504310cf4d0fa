use Rattle.std.proofs.Common.{All, take}
use Rattle.sysmods.specs.Choices.{choice}
use Rattle.judge_needs.specs.Closures.{IsClosure, SupersedesOne}
use Rattle.judge_needs.specs.Pairs.{ArePairs}
use Rattle.judge_needs.proofs.superseded.superseded_pairs.Given as goal

abbrev pub invariant-loop-id : goal.invariant-loop-id
invariant-loop-id l = record {
  known : All (IsClosure (choice l.vers) l.needed-inside.items.items) l.known;
  pairs : ArePairs (SupersedesOne (choice l.vers) l.needed-inside.items.items) (take l.id-index l.id-items)
      l.pairs.items;
}
