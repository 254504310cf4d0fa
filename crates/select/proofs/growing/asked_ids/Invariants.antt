use Rattle.std.proofs.Common.{◌-◌, ◌^◌}
use Rattle.select.proofs.Growth.{IsGrowth}
use Rattle.select.proofs.growing.asked_ids.Given as goal

abbrev pub invariant-loop-searched : goal.invariant-loop-searched
invariant-loop-searched l = IsGrowth l.scope l.seen.keys l.searched

abbrev pub decreases-loop-searched : goal.decreases-loop-searched
decreases-loop-searched l = 2 ^ 63 - l.searched
