use Rattle.std.proofs.Common.{◌≡◌, ◌+◌, ◌++◌, ℕ, take, replicate}
use Rattle.std.specs.Prelude.{count_by}
use Rattle.solve.specs.System.{holds}
use Rattle.solve.specs.Rows.{row_at, times}
use Rattle.solve.proofs.worklist.index_need.Given as goal

abbrev pub invariant-loop-y : goal.invariant-loop-y
invariant-loop-y l = record {
  rows : (x : ℕ) → row_at l.served x ≡ row_at l.initial.served x ++ replicate (times x (take l.y-index l.any)) l.need;
  living : l.living ≡ count_by (holds l.eligible) (take l.y-index l.any);
  turns : l.turns ≡ l.initial.turns + l.y-index;
}
