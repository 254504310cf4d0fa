use Rattle.std.proofs.Common.{take}
use Rattle.sysmods.specs.Seen.{AddsAll}
use Rattle.stream.proofs.keeping.insert_all.Given as goal

abbrev pub invariant-loop-id : goal.invariant-loop-id
invariant-loop-id l = AddsAll l.fn.kept.keys (take l.id-index l.ids) l.kept.keys
