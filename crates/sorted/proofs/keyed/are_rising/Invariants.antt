use Rattle.std.proofs.Common.{take}
use Rattle.terms.specs.Rising.{Rises}
use Rattle.sorted.proofs.keyed.are_rising.Given as goal

-- the items so far rise
abbrev pub invariant-loop-i : goal.invariant-loop-i
invariant-loop-i g l = Rises g.T.Key.Ord.cmp g.T.Keyed.key_of (take l.i l.items)
