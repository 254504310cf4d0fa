-- Who survives, by the tests that each candidate fails.
use Rattle.std.specs.Prelude.{◌≡◌, ◌<◌, ℕ, Bool, true, false, List, Some, slice_get, IsTrue}
use Rattle.std.specs.List.{list_all}
use Rattle.terms.specs.declared.codes.Test.{Test}
use Rattle.terms.specs.declared.codes.Test.TheVariants.{InClash}
use Rattle.terms.specs.Types.{Id}

-- whether it is the test that only survivors fail
abbrev pub is_clash : Test → Bool
is_clash InClash = true
is_clash _ = false

-- the candidate comes before a place, and fails at most that test
pub record SurvivesIn (ids : List Id) (rows : List (List Test)) (end : ℕ) (x : Id) : Type 0 where
  pub place : ℕ
  pub below : place < end
  pub at : slice_get ids place ≡ Some x
  pub row : List Test
  pub row_at : slice_get rows place ≡ Some row
  pub only_clashes : IsTrue (list_all is_clash row)
