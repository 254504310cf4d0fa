use Rattle.std.proofs.Common.{◌≡◌, take}
use Rattle.std.specs.List.{flat_map}
use Rattle.smpe_summary.specs.Text.{ordered}
use Rattle.smpe_summary.proofs.first_line.orders_of.Given as goal

abbrev pub invariant-loop-item : goal.invariant-loop-item
invariant-loop-item l =
    l.ids.items ≡ flat_map (ordered) (take l.item-index l.todo)
