use Rattle.std.proofs.Common.{◌≡◌, ℕ, take, length}
use Rattle.std.specs.List.{list_any}
use Rattle.solve.specs.System.{holds}
use Rattle.solve.proofs.Bare.{is_bare}
use Rattle.solve.proofs.causes.candidates_with_bare_need.Given as goal

abbrev pub invariant-loop-need : goal.invariant-loop-need
invariant-loop-need l = record {
  size : length l.bare.items ≡ l.system.size;
  exact : (x : ℕ) → holds l.bare.items x ≡ list_any (is_bare x) (take l.need-index l.need-items);
}
