-- The parts of a text.
use Rattle.std.specs.Prelude.{◌==◌, ℕ, List, [], ◌∷◌}
use Rattle.std.specs.List.{slice_split}

-- the parts between its commas; the empty text has no parts
abbrev pub parts_of : List ℕ → List (List ℕ)
parts_of [] = []
parts_of (b ∷ text) = slice_split (λ c. c == 44) (b ∷ text)
