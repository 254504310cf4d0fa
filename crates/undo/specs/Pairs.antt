-- Pairs of a member of a list and another id.
use Rattle.std.specs.Prelude.{◌≢◌, ◌↔◌, ◌&&◌, Bool, not, List, AllPairs, Contains, IsTrue}
use Rattle.std.specs.Str.{bytes_eq}
use Rattle.terms.specs.Types.{Id}
use Rattle.terms.specs.Lookups.{is_in}

-- whether the first is in the list and the second is another one
abbrev pub is_own : List Id → Id × Id → Bool
is_own ids p = is_in ids p.0 && not (bytes_eq p.0 p.1)

-- such pairs of the others, each once
pub record AreOwn (ids : List Id) (pairs own : List (Id × Id)) : Type 0 where
  pub members : (p : Id × Id) → Contains own p ↔ (Contains pairs p × IsTrue (is_own ids p))
  pub once : AllPairs (λ p q. p ≢ q) own
