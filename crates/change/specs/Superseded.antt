-- Which kept SYSMODs supersede which.
use Rattle.std.specs.Prelude.{◌↔◌, List, Contains}
use Rattle.terms.specs.Types.{Id}
use Rattle.terms.specs.Choice.{Choice, sup_of}
use Rattle.terms.specs.Over.{Supersedes}

-- one of these SYSMODs names it in SUP
abbrev pub IsNamed : Choice → List Id → Id → Type 0
IsNamed c xs z = (x : Id) × Contains xs x × Contains (sup_of c x) z

-- one of these SYSMODs supersedes it
abbrev pub IsSuperseded : Choice → List Id → Id → Type 0
IsSuperseded c xs z = (x : Id) × Contains xs x × Supersedes c x z

-- one of these SYSMODs that none of them supersedes
pub record IsUnsuperseded (c : Choice) (xs : List Id) (x : Id) : Type 0 where
  pub member : Contains xs x
  pub first : ¬ IsSuperseded c xs x

-- the pairs of an id and one of these SYSMODs that supersedes it
abbrev pub ArePaired : Choice → List Id → List (Id × Id) → Type 0
ArePaired c xs pairs = (z x : Id) → Contains {X = Id × Id} pairs (z, x) ↔ (Contains xs x × Supersedes c x z)
