use Rattle.std.proofs.Common.{◌≤◌, ◌-◌, map, length, drop}
use Rattle.store_rows.specs.Calls.{puts}
use Rattle.store_rows.proofs.Putting.{Leaves}
use Rattle.store_zones.specs.Held.{in_zone}
use Rattle.store_zones.proofs.items.insert_items.Given as goal

-- what becomes of the rows that are left becomes of all
abbrev pub invariant-loop-done : goal.invariant-loop-done
invariant-loop-done g l =
    let row = in_zone g.T.Rows.FromRow.row_of l.zone in
    let all = map row (map (λ x. x.now) l.items) in
    let rest = map row (map (λ x. x.now) (drop l.done l.items)) in
    record {
      within : l.done ≤ length l.items;
      leaves : Leaves g.S.Store l.many_sql l.one_sql (puts l.many_sql l.one_sql all) all l.fn.tx (puts l.many_sql
          l.one_sql rest) rest l.tx;
    }

abbrev pub decreases-loop-done : goal.decreases-loop-done
decreases-loop-done g l = length l.items - l.done
