use Rattle.std.proofs.Common.{◌∙◌, [], ap, arith, take_all}
use Rattle.std.specs.List.{flat_map}
use Rattle.smpe_summary.specs.Text.{ordered}
use Rattle.smpe_summary.proofs.Growing.{grown_more}
use Rattle.smpe_summary.proofs.first_line.orders_of.Goals as goal

pub loop-item-preserved : goal.loop-item-preserved
loop-item-preserved c =
    grown_more (ordered) c.args.todo.now c.loop-item.item-index c.item-item.result []
    c.loop-item.ids.items c.push_ordered.new.ids.items (omega arith) c.item-item.is c.loop-item.invariant
    c.in_ok-push_ordered.ensures

pub returns : goal.returns
returns c =
    c.loop-item.invariant ∙ ap (flat_map (ordered)) (take_all c.loop-item.item-index c.args.todo.now (omega arith))
