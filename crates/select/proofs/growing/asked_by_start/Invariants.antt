use Rattle.std.proofs.Common.{[], take}
use Rattle.std.specs.List.{flat_map}
use Rattle.sysmods.specs.Seen.{AddsAll}
use Rattle.select.specs.Growing.{asked_first}
use Rattle.select.proofs.growing.asked_by_start.Given as goal

abbrev pub invariant-loop-id : goal.invariant-loop-id
invariant-loop-id l = AddsAll [] (flat_map (asked_first l.scope) (take l.id-index l.start)) l.seen.keys
