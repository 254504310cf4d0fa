use Rattle.std.proofs.Common.{◌≡◌, take}
use Rattle.std.specs.List.{flat_map}
use Rattle.smpe_package.specs.Package.{id_of}
use Rattle.smpe_package.proofs.carried.sysmod_ids.Given as goal

abbrev pub invariant-loop-item : goal.invariant-loop-item
invariant-loop-item l = l.ids.items ≡ flat_map id_of (take l.item-index l.items)
