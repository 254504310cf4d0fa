use Rattle.std.proofs.Common.{take}
use Rattle.sorted.specs.MultiMap.{AddsToAll}
use Rattle.sorted.proofs.multi_map.add_to_all.Given as goal

-- the keys so far have the value more
abbrev pub invariant-loop-key : goal.invariant-loop-key
invariant-loop-key g l = AddsToAll g.K.Ord.cmp (take l.key-index l.keys) l.value l.fn.lists l.lists
