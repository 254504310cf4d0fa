-- Which candidates forbid each other by NPRE.
use Rattle.std.specs.Prelude.{◌≡◌, ◌≢◌, ◌⊎◌, ◌↔◌, ℕ, List, Contains, length}
use Rattle.terms.specs.Lookups.{IsRising}
use Rattle.terms.specs.Types.{Id, Global}
use Rattle.terms.specs.Choice.{Choice, npre_of}
use Rattle.judge_faults.specs.declared.own.OwnFaults.{OwnFaults}
use Rattle.judge_faults.specs.Claims.{PassesAt}
use Rattle.judge_faults.specs.Sharing.{IsClashing}

-- candidates in order, each with its faults
pub record AreCandidates (ids : List Id) (faults : List OwnFaults) : Type 0 where
  pub rising : IsRising ids
  pub lengths : length faults ≡ length ids

-- the place is one of two
abbrev pub IsEither : ℕ → ℕ → ℕ → Type 0
IsEither i m n = (n ≡ i) ⊎ (n ≡ m)

-- the place is this one or that of y, where y is another candidate that passes
abbrev pub IsOfNamed : List Id → List OwnFaults → ℕ → Id → Id → ℕ → Type 0
IsOfNamed ids faults i x y n = (x ≢ y) × ((m : ℕ) × PassesAt ids faults m y × IsEither i m n)

-- y is one of these
abbrev pub IsOfOne : List Id → List OwnFaults → ℕ → Id → List Id → ℕ → Type 0
IsOfOne ids faults i x named n = (y : Id) × Contains named y × IsOfNamed ids faults i x y n

-- x at the first place passes and names y in NPRE
abbrev pub IsByNpre : Choice → List Id → List OwnFaults → ℕ → ℕ → Type 0
IsByNpre c ids faults i n = (x : Id) × PassesAt ids faults i x × IsOfOne ids faults i x (npre_of c x) n

-- the candidate at the place passes, and so does another one; one names the other in NPRE
pub record IsForbidding (c : Choice) (ids : List Id) (faults : List OwnFaults) (n : ℕ) : Type 0 where
  pub x : Id
  pub passes : PassesAt ids faults n x
  pub place : ℕ
  pub y : Id
  pub other : PassesAt ids faults place y
  pub apart : x ≢ y
  pub names : Contains (npre_of c x) y ⊎ Contains (npre_of c y) x

-- they are the places of candidates that pass the tests of their own and clash with another such one
abbrev pub AreClashing : Global → Choice → List Id → List OwnFaults → List ℕ → Type 0
AreClashing g c ids faults places =
    (n : ℕ) → Contains places n ↔ (IsClashing g c ids faults n ⊎ IsForbidding c ids faults n)
