use Rattle.std.proofs.Common.{take}
use Rattle.sysmods.specs.Seen.{AddsAll}
use Rattle.sysmods.proofs.search.see_named.Given as goal

abbrev pub invariant-loop-next : goal.invariant-loop-next
invariant-loop-next g l = AddsAll l.fn.seen.keys (take l.next-index l.next-items) l.seen.keys
