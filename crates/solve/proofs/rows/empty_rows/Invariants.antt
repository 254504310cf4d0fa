use Rattle.std.proofs.Common.{◌≡◌, ℕ, [], length}
use Rattle.solve.specs.Rows.{row_at}
use Rattle.solve.proofs.rows.empty_rows.Given as goal

abbrev pub invariant-loop-row : goal.invariant-loop-row
invariant-loop-row g l = record {
  size : length l.rows.items ≡ l._row;
  empty : (x : ℕ) → row_at l.rows.items x ≡ [];
}
