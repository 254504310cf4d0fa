use Rattle.std.proofs.Common.{◌≡◌, ◌++◌, map, take}
use Rattle.undo.specs.Needed.{pair_need}
use Rattle.undo.proofs.needed.add_needs.Given as goal

abbrev pub invariant-loop-pair : goal.invariant-loop-pair
invariant-loop-pair l = l.needs.items ≡ l.fn.needs.items ++ map (pair_need l.fn.kind) (take l.pair-index l.pairs)
