use Rattle.std.proofs.Common.{◌≡◌, ◌++◌, map, take}
use Rattle.std.specs.List.{flat_map}
use Rattle.undo.specs.declared.nodes.Node.TheVariants.{Sysmod}
use Rattle.undo.specs.ByNumbers.{nodes_in}
use Rattle.undo.proofs.numbered.all_nodes.Given as goal

abbrev pub invariant-loop-step : goal.invariant-loop-step
invariant-loop-step l = l.nodes.items ≡ map Sysmod l.ids ++ flat_map nodes_in (take l.step-index l.steps)
