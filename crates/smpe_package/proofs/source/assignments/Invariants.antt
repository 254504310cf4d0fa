use Rattle.std.proofs.Common.{◌≡◌, take}
use Rattle.std.specs.List.{flat_map}
use Rattle.smpe_package.specs.Package.{assign_to}
use Rattle.smpe_package.proofs.source.assignments.Given as goal

abbrev pub invariant-loop-item : goal.invariant-loop-item
invariant-loop-item l = l.assigns.items ≡ flat_map (assign_to l.source) (take l.item-index l.items)
