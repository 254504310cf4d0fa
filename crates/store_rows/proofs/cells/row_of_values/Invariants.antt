use Rattle.std.proofs.Common.{◌≡◌, take}
use Rattle.sqlite.specs.Values.{bound}
use Rattle.store_rows.specs.Rows.{as_bound}
use Rattle.store_rows.proofs.cells.row_of_values.Given as goal

abbrev pub invariant-loop-value : goal.invariant-loop-value
invariant-loop-value l = as_bound l.cells ≡ bound (take l.value-index l.values)
