use Rattle.std.proofs.Common.{◌≡◌, ◌++◌, take}
use Rattle.std.specs.List.{flat_map}
use Rattle.smpe_summary.specs.Todo.{wait_of}
use Rattle.judge_system.specs.Views.{need_view}
use Rattle.smpe_summary.proofs.todo.push_waits.Given as goal

abbrev pub invariant-loop-need : goal.invariant-loop-need
invariant-loop-need l =
    l.todo.items ≡ l.initial.todo.items ++ flat_map (λ x. wait_of l.fn.id (need_view x)) (take l.need-index l.needs)
