-- The greatest set that supports itself.
use Rattle.std.specs.Prelude.{Bool, IsTrue}
use Rattle.terms.specs.Types.{Id}
use Rattle.terms.specs.Judging.{Judging}
use Rattle.terms.specs.Kept.{SupportsItself}

-- The set supports itself, and contains each other set that does.
pub record IsGreatestSet (judging : Judging) (set : Id → Bool) : Type 0 where
  pub supports : SupportsItself judging set
  pub greatest : (other : Id → Bool) → SupportsItself judging other → (x : Id) → IsTrue (other x) → IsTrue (set x)
