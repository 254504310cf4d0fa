use Rattle.std.proofs.Common.{◌≡◌, ◌≤◌, ◌+◌, ◌++◌, length, vec_len, vec_capacity}
use Rattle.std.specs.VecDeque.{deque_len}
use Rattle.sorted.proofs.edits.move_all.Given as goal

-- what went over so far, and what is left, for which there is room
abbrev pub invariant-loop-item : goal.invariant-loop-item
invariant-loop-item g l = record {
  moved : l.new.items ++ l.rest.items ≡ l.fn.new.items ++ l.fn.rest.items;
  room : vec_len l.new + deque_len l.rest ≤ vec_capacity l.new;
}

abbrev pub decreases-loop-item : goal.decreases-loop-item
decreases-loop-item g l = length l.rest.items
