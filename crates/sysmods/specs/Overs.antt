-- Pairs of ids, the first of which is known to be over the second.
use Rattle.std.specs.Prelude.{◌&&◌, ℕ, Bool, List, All, Vec}
use Rattle.std.specs.List.{list_any}
use Rattle.std.specs.Map.{keys_of, values_of}
use Rattle.std.specs.Str.{bytes_eq}
use Rattle.std.specs.declared.alloc.Global.{Global as AnyGlobal}
use Rattle.terms.specs.Types.{Id}
use Rattle.terms.specs.Choice.{Choice}
use Rattle.terms.specs.Over.{IsOver}
use Rattle.sysmods.specs.Graphs.{IsGraph}

-- the first of each pair is over the second
abbrev pub AreOver : Choice → List (Id × Id) → Type 0
AreOver c pairs = All (λ p. IsOver c p.0 p.1) pairs

-- whether the pair is one of them
abbrev pub is_known_over : List (Id × Id) → Id → Id → Bool
is_known_over pairs x z = list_any (λ p. bytes_eq x p.0 && bytes_eq z p.1) pairs

-- whether one of these is known to be over z
abbrev pub is_any_known_over : List (Id × Id) → List Id → Id → Bool
is_any_known_over pairs ys z = list_any (λ y. is_known_over pairs y z) ys

-- what an `Overs` keeps: pairs that it has found, and a graph of what it has gone through
pub record IsKept (c : Choice) (pairs : List (Id × Id)) (nodes : List (Id × Vec ℕ AnyGlobal)) : Type 0 where
  pub known : AreOver c pairs
  pub graph : IsGraph c (keys_of nodes) (values_of nodes)
