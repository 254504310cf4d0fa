-- Texts put together of pieces.
use Rattle.std.proofs.Common.{◌≡◌, ℕ, List, [], ◌∷◌, ◌++◌, refl, ap}
use Rattle.std.specs.List.{flat_map, concat}

-- the records one after the other
pub flat_concat : (lines : List (List ℕ)) → flat_map (λ line. line) lines ≡ concat lines
flat_concat [] = refl
flat_concat (line ∷ lines) = ap (λ rest. line ++ rest) (flat_concat lines)
