-- Two lists as a global zone.
use Rattle.std.specs.Prelude.{◌≡◌, Option, None, Some}
use Rattle.terms.specs.Types.{Global}
use Rattle.terms.specs.Global.{IsGlobal}

-- the result for two lists, whether or not they are those of a global zone
abbrev pub IsMadeOf : Global → Option Global → Type 0
IsMadeOf g None = ¬ IsGlobal g
IsMadeOf g (Some made) = IsGlobal g × (made ≡ g)
