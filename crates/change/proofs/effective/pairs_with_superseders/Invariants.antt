use Rattle.std.proofs.Common.{◌≡◌, ◌++◌, map, take}
use Rattle.sysmods.specs.Choices.{choice}
use Rattle.change.specs.Superseded.{ArePaired}
use Rattle.change.proofs.effective.pairs_with_superseders.Given as goal

abbrev pub invariant-loop-id : goal.invariant-loop-id
invariant-loop-id l = ArePaired (choice l.vers) (take l.id-index l.ids) l.pairs.items

abbrev pub invariant-loop-other : goal.invariant-loop-other
invariant-loop-other l =
    l.pairs.items ≡ l.initial.pairs.items ++ map (λ z. (z, l.id)) (take l.other-index l.other-items)
