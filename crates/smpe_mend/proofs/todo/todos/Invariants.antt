use Rattle.std.proofs.Common.{◌≡◌, ◌++◌, drop}
use Rattle.std.specs.List.{flat_map}
use Rattle.smpe_mend.specs.Words.{todo_of}
use Rattle.smpe_mend.proofs.todo.todos.Given as goal

-- with what the rest adds, all of it
abbrev pub invariant-loop-action : goal.invariant-loop-action
invariant-loop-action l =
    l.found.items ++ flat_map (todo_of l.global l.installed.items) (drop l.action-index l.actions)
    ≡ flat_map (todo_of l.global l.installed.items) l.actions
