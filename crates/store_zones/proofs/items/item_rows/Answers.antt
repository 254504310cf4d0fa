use Rattle.store_zones.specs.Held.{in_zone}
use Rattle.std.proofs.Common.{ap, map, ◌∙◌}
use Rattle.store_rows.specs.Rows.{as_bound}
use Rattle.store_zones.proofs.Runs.{one_more}
use Rattle.store_zones.proofs.items.item_rows.Goals as goal

pub loop-item-preserved : goal.loop-item-preserved
loop-item-preserved g c =
    ap (map as_bound) c.in_ok-push.ensures.items
    ∙ one_more (λ x. x.now) (in_zone g.T.Rows.FromRow.row_of c.args.zone.now) c.args.items.now
    c.loop-item.item-index c.item-item.result c.loop-item-test.true c.item-item.is c.loop-item.rows.items
    c.in_ok-row_in_zone.field-0 c.loop-item.invariant c.in_ok-row_in_zone.ensures
