use Rattle.std.proofs.Common.{◌++◌, ◌∙◌, ap, arith, sym, take_all}
use Rattle.std.specs.List.{flat_map}
use Rattle.std.proofs.lemmas.List.Folds.{flat_map-map}
use Rattle.smpe_summary.specs.Todo.{order_of}
use Rattle.judge_system.specs.Views.{need_view}
use Rattle.smpe_summary.proofs.Growing.{grown_more}
use Rattle.smpe_summary.proofs.todo.push_orders.Goals as goal

pub loop-need-preserved : goal.loop-need-preserved
loop-need-preserved c =
    grown_more (λ x. order_of c.args.global.now (need_view x)) c.args.needs.now c.loop-need.need-index c.need-item.result
    c.args.found.now.items c.loop-need.found.items c.push_order.new.found.items (omega arith) c.need-item.is
    c.loop-need.invariant
    c.in_ok-push_order.ensures

pub returns : goal.returns
returns c =
    c.loop-need.invariant
    ∙ ap (λ l. c.args.found.now.items ++ flat_map (λ x. order_of c.args.global.now (need_view x)) l)
    (take_all c.loop-need.need-index c.args.needs.now (omega arith))
    ∙ ap (λ l. c.args.found.now.items ++ l) (sym (flat_map-map (order_of c.args.global.now) need_view c.args.needs.now))
