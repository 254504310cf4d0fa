-- Graphs of numbers instead of ids.
use Rattle.std.specs.Prelude.{◌≡◌, ◌≤◌, ◌<◌, ◌⊎◌, ℕ, Bool, false, List, [], ◌∷◌, length, map, Some}
use Rattle.std.specs.Prelude.{All, Contains, IsTrue, Vec, slice_get}
use Rattle.std.specs.List.{slice_index_or}
use Rattle.std.specs.Option.{option_map_or}
use Rattle.std.specs.declared.alloc.Global.{Global as AnyGlobal}
use Rattle.terms.specs.Types.{Id}
use Rattle.terms.specs.Choice.{Choice}
use Rattle.terms.specs.Over.{names}
use Rattle.terms.specs.Beside.{Beside}
use Rattle.sysmods.specs.declared.over_graph.NumbersFound.{NumbersFound}
use Rattle.sysmods.specs.declared.over_graph.NumbersFound.TheVariants.{Known, Missing}

-- The numbers of what x names. An id's number is its place in the list of ids, and those that x names are before x.
pub record IsNode (c : Choice) (ids : List Id) (n : ℕ) (x : Id) (numbers : List ℕ) : Type 0 where
  pub named : map (slice_get ids) numbers ≡ map (λ z. Some z) (names c x)
  pub lower : All (λ m. m < n) numbers

-- beside each id the numbers of what it names
abbrev pub IsGraph : Choice → List Id → List (Vec ℕ AnyGlobal) → Type 0
IsGraph c ids lists = Beside (λ n x numbers. IsNode c ids n x numbers.items) ids lists

-- the numbers of these ids, or one of them that has none
abbrev pub AreNumbers : List Id → List Id → NumbersFound → Type 0
AreNumbers ids named (Known numbers) = map (slice_get ids) numbers.items ≡ map (λ z. Some z) named
AreNumbers ids named (Missing x) = Contains named x

-- the numbers in the list of a number
abbrev pub list_at : List (Vec ℕ AnyGlobal) → ℕ → List ℕ
list_at lists n = option_map_or (λ numbers. numbers.items) (slice_get lists n) []

-- the numbers between lead down from n to m, each to one in its list
abbrev pub Descends : (ℕ → List ℕ) → ℕ → List ℕ → ℕ → Type 0
Descends lists n [] m = Contains (lists n) m
Descends lists n (k ∷ ks) m = Contains (lists n) k × Descends lists k ks m

-- n leads down to m in one step or more
abbrev pub LeadsDown : (ℕ → List ℕ) → ℕ → ℕ → Type 0
LeadsDown lists n m = (between : List ℕ) × Descends lists n between m

-- each number leads to lower ones
abbrev pub IsFalling : (ℕ → List ℕ) → Type 0
IsFalling lists = (n m : ℕ) → Contains (lists n) m → m < n

-- whether a number is marked
abbrev pub is_marked : List Bool → ℕ → Bool
is_marked marks n = slice_index_or marks n false

-- these numbers are marked, and no others that were not
pub record Marks (numbers : List ℕ) (old new : List Bool) : Type 0 where
  pub room : length new ≡ length old
  pub kept : (n : ℕ) → IsTrue (is_marked old n) → IsTrue (is_marked new n)
  pub marked : (n : ℕ) → Contains numbers n → IsTrue (is_marked new n)
  pub others : (n : ℕ) → IsTrue (is_marked new n) → IsTrue (is_marked old n) ⊎ Contains numbers n

-- A search down from a number has marked numbers to which it leads, and among them its own list and the lists of those
-- marked from `next` on.
pub record IsSearchDown (lists : ℕ → List ℕ) (high next : ℕ) (marks : List Bool) : Type 0 where
  pub room : length marks ≡ high
  pub sound : (n : ℕ) → IsTrue (is_marked marks n) → LeadsDown lists high n
  pub first : (n : ℕ) → Contains (lists high) n → IsTrue (is_marked marks n)
  pub closed : (k n : ℕ) → next ≤ k → IsTrue (is_marked marks k) → Contains (lists k) n → IsTrue (is_marked marks n)
