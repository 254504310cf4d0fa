use Rattle.std.proofs.Common.{refl}
use Rattle.store_sysmods.proofs.Pushing.{more_pushed, none_pushed}
use Rattle.store_sysmods.proofs.item_rows.append_all_rows.Goals as goal

pub loop-index-init : goal.loop-index-init
loop-index-init g c = none_pushed c.args.rows.now.items _ refl

pub loop-index-preserved : goal.loop-index-preserved
loop-index-preserved g c =
    more_pushed (g.R.ItemRows.of_item c.args.item_rows.now) c.args.items.now c.loop-index.index
    c.index-items-index.result c.loop-index-test.true c.index-items-index.is _ _ _ c.loop-index.invariant
    c.in_ok-append_rows.ensures
