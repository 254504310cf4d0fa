use Rattle.std.proofs.Common.{◌≡◌, ◌≤◌, ◌+◌, ◌++◌, length, vec_len, vec_capacity}
use Rattle.std.specs.VecDeque.{deque_len}
use Rattle.std.specs.Vec.Iter.{into_iter_items, into_iter_len}
use Rattle.sorted.proofs.Editing.{IsEditing}
use Rattle.sorted.proofs.edits.make_edits.Given as goal

-- the edits so far are made, and there is room for what is left and for what the other edits put
abbrev pub invariant-loop-edit : goal.invariant-loop-edit
invariant-loop-edit g l = record {
  walked : l.yielded ++ into_iter_items l.edit-iterator ≡ into_iter_items l.initial.edit-iterator;
  count : into_iter_len l.edit-iterator ≡ length (into_iter_items l.edit-iterator);
  editing : IsEditing g.T.Key.Ord.cmp g.T.Keyed.key_of l.fn.items.items (into_iter_items l.initial.edit-iterator)
      (length l.yielded) l.items.items l.rest.items;
  room : vec_len l.items + deque_len l.rest + into_iter_len l.edit-iterator ≤ vec_capacity l.items;
}
