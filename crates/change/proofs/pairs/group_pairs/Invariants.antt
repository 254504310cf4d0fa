use Rattle.std.proofs.Common.{take}
use Rattle.change.specs.Pairs.{AreGrouped}
use Rattle.change.proofs.pairs.group_pairs.Given as goal

-- the pairs so far are gathered
abbrev pub invariant-loop-pair : goal.invariant-loop-pair
invariant-loop-pair l = AreGrouped (take l.pair-index l.pairs) l.groups
