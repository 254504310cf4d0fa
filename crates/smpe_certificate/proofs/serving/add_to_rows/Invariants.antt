use Rattle.std.proofs.Common.{◌≡◌, ◌++◌, ℕ, take, replicate}
use Rattle.solve.specs.Rows.{row_at, times}
use Rattle.smpe_certificate.proofs.serving.add_to_rows.Given as goal

abbrev pub invariant-loop-y : goal.invariant-loop-y
invariant-loop-y l = (x : ℕ) → row_at l.rows x ≡ row_at l.initial.rows x
    ++ replicate (times x (take l.y-index l.list)) l.value
