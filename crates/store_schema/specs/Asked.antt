-- Which rows of a table a query asks for.
use Rattle.std.specs.Prelude.{List, [], ◌∷◌, filter}
use Rattle.sqlite.specs.Order.{Row}
use Rattle.store_rows.specs.Rows.{has_key}

-- those that have the key, or all of them if the key has no column
abbrev pub asked : Row → List Row → List Row
asked [] rows = rows
asked (k ∷ key) rows = filter (has_key (k ∷ key)) rows
