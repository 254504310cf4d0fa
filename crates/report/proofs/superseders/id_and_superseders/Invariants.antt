use Rattle.std.proofs.Common.{◌-◌, ◌^◌, take}
use Rattle.sysmods.specs.Seen.{AddsAll}
use Rattle.report.proofs.Superseding.{IsSearching}
use Rattle.report.proofs.superseders.id_and_superseders.Given as goal

abbrev pub invariant-loop-searched : goal.invariant-loop-searched
invariant-loop-searched l = IsSearching l.fn.vers l.fn.id l.seen.keys l.searched

abbrev pub decreases-loop-searched : goal.decreases-loop-searched
decreases-loop-searched l = 2 ^ 63 - l.searched

abbrev pub invariant-loop-by : goal.invariant-loop-by
invariant-loop-by l = AddsAll l.initial.seen.keys (take l.by-index l.by-items) l.seen.keys
