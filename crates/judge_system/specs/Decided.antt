-- Which candidates are kept, and why each other one is not.
use Rattle.std.specs.Prelude.{◌≡◌, ◌↔◌, not, List, All, Contains, map, filter}
use Rattle.terms.specs.Types.{Id}
use Rattle.terms.specs.Lookups.{IsRising, is_in}
use Rattle.terms.specs.Judging.{Judging}
use Rattle.terms.specs.Kept.{StaysKept}
use Rattle.machine.specs.Outcome.{Failure}
use Rattle.machine.specs.Installing.{IsFailure}

-- the kept candidates, rising, and why each other one is not kept, in the order of the candidates
pub record AreDecided (judging : Judging) (kept : List Id) (failed : List (Id × Failure)) : Type 0 where
  pub rising : IsRising kept
  pub members : (x : Id) → Contains kept x ↔ StaysKept judging x
  pub ids : map (λ p. p.0) failed ≡ filter (λ x. not (is_in kept x)) judging.cands
  pub failures : All (λ p. IsFailure judging kept p.0 p.1) failed
