-- Lists of ids as sets.
use Rattle.std.specs.Prelude.{◌↔◌, List, Contains}
use Rattle.terms.specs.Types.{Id}
use Rattle.terms.specs.Lookups.{IsRising}

-- these ids, rising, each once
pub record IsSetOf (ids xs : List Id) : Type 0 where
  pub rising : IsRising ids
  pub members : (x : Id) → Contains ids x ↔ Contains xs x
