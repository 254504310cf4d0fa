-- No chain meets nothing.
use Rattle.std.proofs.Common.{◌≡◌, false, List, [], ◌∷◌, refl}
use Rattle.terms.specs.Types.{Id}
use Rattle.terms.specs.Lookups.{meets}

pub none_met : (xs : List Id) → false ≡ meets xs []
none_met [] = refl
none_met (x ∷ xs) = none_met xs
