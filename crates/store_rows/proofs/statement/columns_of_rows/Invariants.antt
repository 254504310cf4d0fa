use Rattle.std.proofs.Common.{◌≡◌, ◌++◌, map, take}
use Rattle.sqlite.specs.Values.{bound}
use Rattle.store_rows.specs.Calls.{columns_of}
use Rattle.store_rows.specs.Rows.{as_bound}
use Rattle.store_rows.proofs.statement.columns_of_rows.Given as goal

abbrev pub invariant-loop-row : goal.invariant-loop-row
invariant-loop-row l = bound l.values.items ≡ columns_of (map as_bound (take l.row-index l.rows))

abbrev pub invariant-loop-at : goal.invariant-loop-at
invariant-loop-at l = bound l.values.items ≡ bound l.initial.values.items ++ as_bound (take l.at l.row)
