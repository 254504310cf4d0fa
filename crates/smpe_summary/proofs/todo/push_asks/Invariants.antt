use Rattle.std.proofs.Common.{◌≡◌, ◌++◌, map}
use Rattle.terms.specs.declared.kinds.HoldKind.TheVariants.{User}
use Rattle.terms.specs.Lookups.{holds_of}
use Rattle.smpe_summary.specs.Todo.{ask}
use Rattle.smpe_summary.proofs.todo.push_asks.Given as goal

abbrev pub invariant-loop-hold : goal.invariant-loop-hold
invariant-loop-hold l =
    l.todo.items ++ map (ask l.fn.id) l.hold-iterator
    ≡ l.fn.todo.items ++ map (ask l.fn.id) (holds_of l.fn.global User l.fn.id)
