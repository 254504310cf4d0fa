use Rattle.std.proofs.Common.{◌≡◌, Some, map, take}
use Rattle.std.specs.Prelude.{slice_get}
use Rattle.indexmap.specs.IndexMap.{keys}
use Rattle.sysmods.proofs.over_graph.find_numbers.Given as goal

abbrev pub invariant-loop-id : goal.invariant-loop-id
invariant-loop-id l =
    map (slice_get (keys l.nodes)) l.numbers.items ≡ map (λ z. Some z) (take l.id-index l.ids)
