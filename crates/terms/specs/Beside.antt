-- One list beside another.
use Rattle.std.specs.Prelude.{◌≡◌, ℕ, List, Some, length, slice_get}

-- the lists have one length, and the relation holds at each place
pub record Beside {X Y : Type 0} (R : ℕ → X → Y → Type 0) (xs : List X) (ys : List Y) : Type 0 where
  pub lengths : length ys ≡ length xs
  pub each : (n : ℕ) (x : X) (y : Y) → slice_get xs n ≡ Some x → slice_get ys n ≡ Some y → R n x y
