use Rattle.std.proofs.Common.{◌≡◌, ℕ, take}
use Rattle.std.specs.Prelude.{◌&&◌, not}
use Rattle.solve.specs.System.{holds}
use Rattle.solve.specs.Marks.{is_in}
use Rattle.solve.proofs.causes.clear_marks.Given as goal

abbrev pub invariant-loop-x : goal.invariant-loop-x
invariant-loop-x l = (x : ℕ) → holds l.marks x ≡ (holds l.initial.marks x && not (is_in (take l.x-index l.list) x))
