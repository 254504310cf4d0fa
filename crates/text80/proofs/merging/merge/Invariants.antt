use Rattle.std.proofs.Common.{drop}
use Rattle.text80.proofs.Sweeping.{IsMerging}
use Rattle.text80.proofs.merging.merge.Given as goal

abbrev pub invariant-loop-line : goal.invariant-loop-line
invariant-loop-line l =
    IsMerging l.initial.ranges l.line-items l.initial.given (drop l.line-index l.line-items) l.given l.merged.items
    l.ranges l.reach
