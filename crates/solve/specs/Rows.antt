use Rattle.std.specs.Prelude.{◌==◌, ℕ, Bool, cond, List, [], map, Vec}
use Rattle.std.specs.List.{slice_index_or, count_by}
use Rattle.std.specs.declared.alloc.Global.{Global}

-- the row of x, with no member past the end
abbrev pub row_at : {X : Type 0} → List (Vec X Global) → ℕ → List X
row_at rows x = slice_index_or (map (λ row. row.items) rows) x []

-- how often a number occurs in a list
abbrev pub times : ℕ → List ℕ → ℕ
times x xs = count_by (λ y. y == x) xs

abbrev pub one_if : Bool → ℕ
one_if b = cond b 1 0
