-- The order in which candidates are dropped.
use Rattle.std.specs.Prelude.{◌≡◌, ◌⊎◌, ◌↔◌, ◌<◌, ⊤, ℕ, Bool, false, List, [], ◌∷◌, ◌++◌, Some, All, Contains}
use Rattle.std.specs.Prelude.{IsTrue, length, map, slice_get}
use Rattle.solve.specs.System.{System, Need, holds, AreKept}
use Rattle.smpe_certificate.specs.declared.elimination.Dropped.{Dropped}

abbrev pub candidates_of : List Dropped → List ℕ
candidates_of drops = map (λ d. d.candidate) drops

-- y is not eligible, or one of those that are out
abbrev pub IsOut : System → List ℕ → ℕ → Type 0
IsOut p out y = (holds p.eligible y ≡ false) ⊎ Contains out y

-- An eligible candidate that is not yet out has a need, and all that serve it are out.
pub record IsDrop (p : System) (out : List ℕ) (d : Dropped) : Type 0 where
  pub need : Need
  pub at : slice_get p.needs d.need ≡ Some need
  pub of : need.of ≡ d.candidate
  pub eligible : IsTrue (holds p.eligible d.candidate)
  pub fresh : ¬ Contains out d.candidate
  pub unserved : All (IsOut p out) need.any

-- each of them is dropped once those before it are out
abbrev pub InOrder : System → List ℕ → List Dropped → Type 0
InOrder p out [] = ⊤
InOrder p out (d ∷ ds) = IsDrop p out d × InOrder p (out ++ d.candidate ∷ []) ds

-- The kept candidates are the union of all self-supporting sets. The other eligible ones are dropped, in this order.
pub record IsElimination (p : System) (kept : List Bool) (drops : List Dropped) : Type 0 where
  pub are_kept : AreKept p kept
  pub in_order : InOrder p [] drops
  pub within : All (λ d. (d.candidate < p.size) × (d.need < length p.needs)) drops
  pub members : (x : ℕ) → Contains (candidates_of drops) x
      ↔ (IsTrue (holds p.eligible x) × (holds kept x ≡ false))
