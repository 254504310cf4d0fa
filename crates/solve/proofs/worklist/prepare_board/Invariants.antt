use Rattle.std.proofs.Common.{◌≡◌, ◌+◌, ℕ, [], length, map, take}
use Rattle.solve.specs.System.{pairs_of}
use Rattle.solve.specs.NeedView.{numbered}
use Rattle.solve.specs.Board.{AreServed, eligible_in}
use Rattle.solve.specs.Rows.{row_at}
use Rattle.solve.proofs.worklist.prepare_board.Given as goal

abbrev pub invariant-loop-candidate : goal.invariant-loop-candidate
invariant-loop-candidate l = record {
  size : length l.served.items ≡ l._candidate;
  empty : (x : ℕ) → row_at l.served.items x ≡ [];
  turns : l.turns ≡ l._candidate;
}

abbrev pub invariant-loop-k : goal.invariant-loop-k
invariant-loop-k l = record {
  living : l.living.items ≡ map (eligible_in l.system) (map numbered (take l.k l.needs));
  served : AreServed (map numbered (take l.k l.needs)) l.served.items;
  size : length l.served.items ≡ l.system.size;
  turns : l.turns ≡ l.system.size + l.k + pairs_of (map numbered (take l.k l.needs));
}
