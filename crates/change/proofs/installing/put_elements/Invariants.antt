use Rattle.std.proofs.Common.{◌≡◌, ◌++◌, length}
use Rattle.std.specs.Vec.Iter.{into_iter_items, into_iter_len}
use Rattle.change.specs.Puts.{with_elements}
use Rattle.change.proofs.installing.put_elements.Given as goal

-- the elements so far are put
abbrev pub invariant-loop-element : goal.invariant-loop-element
invariant-loop-element l = record {
  all : l.yielded ++ into_iter_items l.element-iterator ≡ into_iter_items l.initial.element-iterator;
  put : l.edits ≡ with_elements l.initial.edits l.yielded;
  count : into_iter_len l.element-iterator ≡ length (into_iter_items l.element-iterator);
}
