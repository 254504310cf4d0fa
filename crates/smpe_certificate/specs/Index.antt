-- The needs that each candidate serves, by their places.
use Rattle.std.specs.Prelude.{◌≡◌, ◌<◌, ℕ, List, Some, All, Contains, Vec, length, slice_get}
use Rattle.std.specs.declared.alloc.Global.{Global}
use Rattle.solve.specs.System.{System, Need}
use Rattle.solve.specs.Rows.{row_at}

-- there is a row for each candidate, with each need that it serves
pub record AreServed (p : System) (rows : List (Vec ℕ Global)) : Type 0 where
  pub size : length rows ≡ p.size
  pub within : (y : ℕ) → All (λ k. k < length p.needs) (row_at rows y)
  pub all : (k y : ℕ) (d : Need) → slice_get p.needs k ≡ Some d → Contains d.any y → Contains (row_at rows y) k
