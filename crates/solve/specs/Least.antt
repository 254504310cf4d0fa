-- A set that grows: it contains its start, and by each rule one more number once it contains all that the rule asks
-- for.
use Rattle.std.specs.Prelude.{◌≡◌, ◌<◌, ◌↔◌, ℕ, Bool, not, List, length, map, All, AllPairs, IsTrue}
use Rattle.solve.specs.System.{System, Need, holds}

-- if all of these are in the set, that one is
pub record Rule : Type 0 where
  pub these : List ℕ
  pub that : ℕ

-- The start has a flag for each number.
pub record Growth : Type 0 where
  pub start : List Bool
  pub rules : List Rule

-- each number in it has a flag in the start, and its list rises strictly
pub record IsRule (size : ℕ) (r : Rule) : Type 0 where
  pub these : All (λ y. y < size) r.these
  pub rising : AllPairs (λ a b. a < b) r.these
  pub that : r.that < size

-- The set contains the start, and what each rule adds to it.
pub record IsClosed (g : Growth) (set : ℕ → Bool) : Type 0 where
  pub start : (x : ℕ) → IsTrue (holds g.start x) → IsTrue (set x)
  pub rules : All (λ r. All (λ y. IsTrue (set y)) r.these → IsTrue (set r.that)) g.rules

-- x is in every closed set
abbrev pub IsGrown : Growth → ℕ → Type 0
IsGrown g x = (set : ℕ → Bool) → IsClosed g set → IsTrue (set x)

-- The flags are what all closed sets have in common: the least closed set.
pub record IsLeast (g : Growth) (flags : List Bool) : Type 0 where
  pub size : length flags ≡ length g.start
  pub members : (x : ℕ) → IsTrue (holds flags x) ↔ IsGrown g x

-- a need read as a rule: the candidate is out if all that serve the need are out
abbrev pub rule_of : Need → Rule
rule_of d = record { these = d.any; that = d.of }

-- The numbers outside a system's sets grow: they start with those that are not eligible.
abbrev pub growth_of : System → Growth
growth_of p = record { start = map not p.eligible; rules = map rule_of p.needs }
