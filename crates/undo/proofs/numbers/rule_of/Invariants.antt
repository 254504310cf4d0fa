use Rattle.std.proofs.Common.{◌≡◌, Some, map, slice_get, take}
use Rattle.undo.proofs.numbers.rule_of.Given as goal

abbrev pub invariant-loop-node : goal.invariant-loop-node
invariant-loop-node l = map (slice_get l.table) l.these.items ≡ map (λ n. Some n) (take l.node-index l.node-items)
