use Rattle.std.proofs.Common.{◌≡◌, map, take}
use Rattle.store_rows.specs.Rows.{as_bound}
use Rattle.store_zones.specs.Held.{in_zone}
use Rattle.store_zones.proofs.items.item_rows.Given as goal

-- the rows of the items so far
abbrev pub invariant-loop-item : goal.invariant-loop-item
invariant-loop-item g l =
    map as_bound l.rows.items
    ≡ map (in_zone g.T.Rows.FromRow.row_of l.zone) (map (λ x. x.now) (take l.item-index l.items))
