use Rattle.std.proofs.Common.{◌-◌, length}
use Rattle.solve.proofs.Spread.{IsSpread}
use Rattle.solve.proofs.causes.search_backwards.Given as goal

abbrev pub invariant-loop-searched : goal.invariant-loop-searched
invariant-loop-searched l = IsSpread l.leads l.target l.marks l.found.items l.searched

abbrev pub decreases-loop-searched : goal.decreases-loop-searched
decreases-loop-searched l = length l.leads - l.searched
