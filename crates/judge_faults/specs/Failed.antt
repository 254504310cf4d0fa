-- The tests that each candidate fails, in the order of reports.
use Rattle.std.specs.Prelude.{◌≡◌, ◌↔◌, ℕ, Bool, List, Some, length, filter, IsTrue, slice_get}
use Rattle.terms.specs.declared.codes.Test.{Test}
use Rattle.terms.specs.Types.{Id}
use Rattle.terms.specs.Tests.{Setting, Fails}
use Rattle.terms.specs.Failures.{all_tests}

-- there is a row for each candidate, with the tests that the candidate fails
pub record AreFailedTests (s : Setting) (rows : List (List Test)) : Type 0 where
  pub lengths : length rows ≡ length s.cands
  pub fails : Id → Test → Bool
  pub rows_are : (n : ℕ) (x : Id) → slice_get s.cands n ≡ Some x → slice_get rows n ≡ Some (filter (fails x) all_tests)
  pub failed : (n : ℕ) (x : Id) → slice_get s.cands n ≡ Some x → (t : Test) → IsTrue (fails x t) ↔ Fails s x t
