use Rattle.std.proofs.Common.{map, length}
use Rattle.store_rows.specs.Calls.{puts}
use Rattle.store_rows.specs.Rows.{as_bound}
use Rattle.store_rows.proofs.Putting.{Leaves, singles}
use Rattle.store_rows.proofs.statement.insert_rows.Given as goal

abbrev pub invariant-loop-rest : goal.invariant-loop-rest
invariant-loop-rest g l =
    let all = map as_bound l.rows in
    let rest = map as_bound l.rest in
    Leaves g.S.Store l.many_sql l.one_sql (puts l.many_sql l.one_sql all) all l.fn.tx (puts l.many_sql l.one_sql rest)
    rest l.tx

abbrev pub decreases-loop-rest : goal.decreases-loop-rest
decreases-loop-rest g l = length l.rest

abbrev pub invariant-loop-rest-2 : goal.invariant-loop-rest-2
invariant-loop-rest-2 g l =
    let all = map as_bound l.rows in
    let rest = map as_bound l.rest in
    Leaves g.S.Store l.many_sql l.one_sql (puts l.many_sql l.one_sql all) all l.fn.tx (singles l.one_sql rest) rest l.tx

abbrev pub decreases-loop-rest-2 : goal.decreases-loop-rest-2
decreases-loop-rest-2 g l = length l.rest
