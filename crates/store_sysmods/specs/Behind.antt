-- The rows of the items of a list. Those of an item may count the items before it.
use Rattle.std.specs.Prelude.{◌+◌, ℕ, List, [], ◌∷◌, ◌++◌, length}
use Rattle.sqlite.specs.Order.{Row}
use Rattle.terms.specs.Types.{Ver}
use Rattle.store_schema.specs.Rows.{number_behind}

-- what an item adds after others, for each item of a list that follows some
abbrev pub rows_behind : {X : Type 0} → (List X → X → List Row) → List X → List X → List Row
rows_behind rows front [] = []
rows_behind rows front (x ∷ xs) = rows front x ++ rows_behind rows (front ++ x ∷ []) xs

-- the rows of an item that do not depend on others
abbrev pub of_each : {X : Type 0} → (X → Row) → List X → X → List Row
of_each row front x = row x ∷ []

-- those of an item that is counted from 1
abbrev pub of_counted : {X : Type 0} → (ℕ × X → Row) → List X → X → List Row
of_counted row front x = row (length front + 1, x) ∷ []

-- those of a ++VER with its number among those of its SREL
abbrev pub of_numbered : (ℕ × Ver → List Row) → List Ver → Ver → List Row
of_numbered rows front v = rows (number_behind front v, v)
