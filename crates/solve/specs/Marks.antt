use Rattle.std.specs.Prelude.{◌≡◌, ◌↔◌, ◌||◌, ◌+◌, ◌==◌, ℕ, Bool, false, List, Contains, Vec, length, take}
use Rattle.std.specs.List.{list_any}
use Rattle.std.specs.declared.alloc.Global.{Global}
use Rattle.solve.specs.System.{System, holds}
use Rattle.solve.specs.Causes.{LeadsTo}
use Rattle.solve.specs.Parts.{count_of}
use Rattle.solve.specs.Rows.{row_at, times, one_if}

-- row y has the candidates that lead to y
pub record AreLeads (p : System) (kept : List Bool) (leads : List (Vec ℕ Global)) : Type 0 where
  pub size : length leads ≡ p.size
  pub exact : (x y : ℕ) → Contains (row_at leads y) x ↔ LeadsTo p kept x y

-- no candidate is marked
abbrev pub AreClear : List Bool → Type 0
AreClear marks = (x : ℕ) → holds marks x ≡ false

-- the list has each marked candidate once, and no other
abbrev pub IsListOf : List Bool → List ℕ → Type 0
IsListOf marks list = (x : ℕ) → times x list ≡ one_if (holds marks x)

-- whether a number is in the list
abbrev pub is_in : List ℕ → ℕ → Bool
is_in list x = list_any (λ y. y == x) list

-- What a row adds to the marks, and at the end to the list of the marked.
pub record IsMarked (row : List ℕ) (old new : List Bool) (list more : List ℕ) : Type 0 where
  pub marks : (x : ℕ) → holds new x ≡ (holds old x || is_in row x)
  pub front : take (length list) more ≡ list
  pub count : length more + count_of old ≡ length list + count_of new
  pub listed : IsListOf old list → IsListOf new more
