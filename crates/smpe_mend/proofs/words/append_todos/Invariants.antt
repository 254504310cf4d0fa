use Rattle.std.proofs.Common.{◌≡◌, ◌++◌, drop}
use Rattle.std.specs.List.{flat_map}
use Rattle.smpe_mend.specs.Words.{todo_line}
use Rattle.smpe_mend.proofs.words.append_todos.Given as goal

-- with what the rest adds, all of it
abbrev pub invariant-loop-todo : goal.invariant-loop-todo
invariant-loop-todo l =
    l.text.items ++ flat_map (todo_line l.global) (drop l.todo-index l.todos)
    ≡ l.fn.text.items ++ flat_map (todo_line l.global) l.todos
