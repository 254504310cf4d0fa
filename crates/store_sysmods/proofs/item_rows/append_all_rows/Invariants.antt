use Rattle.std.proofs.Common.{◌≡◌, ◌++◌, [], map, take}
use Rattle.store_rows.specs.Rows.{as_bound}
use Rattle.store_sysmods.specs.Behind.{rows_behind}
use Rattle.store_sysmods.proofs.item_rows.append_all_rows.Given as goal

abbrev pub invariant-loop-index : goal.invariant-loop-index
invariant-loop-index g l = map as_bound l.rows.items ≡ map as_bound l.fn.rows.items
    ++ rows_behind (g.R.ItemRows.of_item l.item_rows) [] (take l.index l.items)
