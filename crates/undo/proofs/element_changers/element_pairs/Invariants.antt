use Rattle.std.proofs.Common.{◌≡◌, ◌++◌, map, take}
use Rattle.std.specs.List.{flat_map}
use Rattle.undo.specs.Elements.{beside}
use Rattle.undo.proofs.element_changers.element_pairs.Given as goal

abbrev pub invariant-loop-id : goal.invariant-loop-id
invariant-loop-id l = l.pairs.items ≡ flat_map (beside l.global l.changers) (take l.id-index l.id-items)

abbrev pub invariant-loop-sharer : goal.invariant-loop-sharer
invariant-loop-sharer l =
    l.pairs.items ≡ l.initial.pairs.items ++ map (λ y. (l.id, y)) (take l.sharer-index l.sharer-items)
