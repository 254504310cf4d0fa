use Rattle.std.proofs.Common.{◌≡◌, ◌++◌, take}
use Rattle.std.specs.List.{flat_map}
use Rattle.smpe_summary.specs.Todo.{order_of}
use Rattle.judge_system.specs.Views.{need_view}
use Rattle.smpe_summary.proofs.todo.push_orders.Given as goal

abbrev pub invariant-loop-need : goal.invariant-loop-need
invariant-loop-need l =
    l.found.items ≡ l.initial.found.items ++ flat_map (λ x. order_of l.fn.global (need_view x)) (take l.need-index l.needs)
