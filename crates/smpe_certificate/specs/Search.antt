-- A search for the candidates to drop, over plain lists.
use Rattle.std.specs.Prelude.{◌≡◌, ◌⊎◌, ◌↔◌, ◌≤◌, ◌+◌, ℕ, Bool, false, List, [], ◌∷◌, ◌++◌, Some, All, Any, Contains}
use Rattle.std.specs.Prelude.{IsTrue, length, drop, set, slice_get}
use Rattle.solve.specs.System.{System, Need, holds}
use Rattle.solve.specs.Parts.{HasEvery, IsWithin, IsServed, count_of}
use Rattle.smpe_certificate.specs.declared.elimination.Dropped.{Dropped}
use Rattle.smpe_certificate.specs.Drops.{InOrder, candidates_of}

-- The need at a place leaves its candidate standing, or drops it.
pub data Settles (p : System) (place : ℕ) (old : List Bool) (before : List Dropped) (new : List Bool)
    (after : List Dropped) : Type 0 where
  Stays : (d : Need) → slice_get p.needs place ≡ Some d → IsServed old d → new ≡ old → after ≡ before
      → Settles p place old before new after
  Drops : (d : Need) → slice_get p.needs place ≡ Some d → IsTrue (holds old d.of) → All (λ y. holds old y ≡ false) d.any
      → new ≡ set old d.of false
      → after ≡ before ++ record { candidate = d.of; need = place } ∷ []
      → Settles p place old before new after

-- y stands, or is among the dropped ones that are still to be followed
abbrev pub IsLive : List Bool → List ℕ → ℕ → Type 0
IsLive standing pending y = IsTrue (holds standing y) ⊎ Contains pending y

-- The first so many of those that were dropped have been followed. A need of a standing candidate is due, or is served
-- by one that stands or whose drop is still to be followed.
pub record IsSearch (p : System) (due : ℕ → Type 0) (followed : ℕ) (standing : List Bool) (dropped : List Dropped) :
    Type 0 where
  pub flags : length p.eligible ≡ p.size
  pub size : length standing ≡ p.size
  pub every : HasEvery p standing
  pub within : IsWithin standing p.eligible
  pub in_order : InOrder p [] dropped
  pub members : (x : ℕ) → Contains (candidates_of dropped) x
      ↔ (IsTrue (holds p.eligible x) × (holds standing x ≡ false))
  pub count : count_of standing + length dropped ≡ count_of p.eligible
  pub place : followed ≤ length dropped
  pub settled : (k : ℕ) (d : Need) → slice_get p.needs k ≡ Some d → IsTrue (holds standing d.of)
      → due k ⊎ Any (IsLive standing (drop followed (candidates_of dropped))) d.any

-- all needs are due
abbrev pub IsStart : System → List Bool → List Dropped → Type 0
IsStart p standing dropped = IsSearch p (λ k. 0 ≤ k) 0 standing dropped

-- the needs of a row are due
abbrev pub HasDue : System → List ℕ → ℕ → List Bool → List Dropped → Type 0
HasDue p row followed standing dropped = IsSearch p (Contains row) followed standing dropped

-- no need is due
abbrev pub Follows : System → ℕ → List Bool → List Dropped → Type 0
Follows p followed standing dropped = IsSearch p (λ k. ⊥) followed standing dropped
