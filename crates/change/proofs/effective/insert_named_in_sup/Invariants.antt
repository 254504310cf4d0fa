use Rattle.std.proofs.Common.{take}
use Rattle.sysmods.specs.Seen.{AddsAll}
use Rattle.change.proofs.effective.insert_named_in_sup.Given as goal

abbrev pub invariant-loop-other : goal.invariant-loop-other
invariant-loop-other l = AddsAll l.fn.seen.keys (take l.other-index l.other-items) l.seen.keys
