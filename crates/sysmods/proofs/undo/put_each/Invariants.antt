use Rattle.std.proofs.Common.{◌≡◌}
use Rattle.sysmods.specs.Lists.{with_holds}
use Rattle.sysmods.specs.Undone.{UndoesAll}
use Rattle.sysmods.proofs.undo.put_each.Given as goal

abbrev pub invariant-loop-hold : goal.invariant-loop-hold
invariant-loop-hold l = record {
  so_far : l.to ≡ with_holds l.initial.to l.yielded;
  undo : UndoesAll l.initial.to l.to l.log.items;
}
