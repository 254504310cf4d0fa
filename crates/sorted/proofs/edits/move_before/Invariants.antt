use Rattle.std.proofs.Common.{◌≡◌, ◌+◌, ◌++◌, length, vec_len, vec_capacity}
use Rattle.std.specs.VecDeque.{deque_len}
use Rattle.terms.specs.Rising.{Rises, before, behind}
use Rattle.sorted.proofs.edits.move_before.Given as goal

-- what went over so far, and what is left
abbrev pub invariant-loop-item : goal.invariant-loop-item
invariant-loop-item g l = record {
  moved : l.new.items ++ before g.T.Key.Ord.cmp g.T.Keyed.key_of l.key l.rest.items
      ≡ l.fn.new.items ++ before g.T.Key.Ord.cmp g.T.Keyed.key_of l.key l.fn.rest.items;
  kept : behind g.T.Key.Ord.cmp g.T.Keyed.key_of l.key l.rest.items
      ≡ behind g.T.Key.Ord.cmp g.T.Keyed.key_of l.key l.fn.rest.items;
  rises : Rises g.T.Key.Ord.cmp g.T.Keyed.key_of l.rest.items;
  len : vec_len l.new + deque_len l.rest ≡ vec_len l.fn.new + deque_len l.fn.rest;
  capacity : vec_capacity l.new ≡ vec_capacity l.fn.new;
}

abbrev pub decreases-loop-item : goal.decreases-loop-item
decreases-loop-item g l = length l.rest.items
