-- What is known about candidates by their places, and the failures that follow from it.
use Rattle.std.specs.Prelude.{◌≡◌, ◌<◌, ℕ, not, List, [], ◌∷◌, ◌++◌, Some, All, length, map, filter, take, slice_get}
use Rattle.std.specs.Prelude.{slice_index_or}
use Rattle.terms.specs.Types.{Id}
use Rattle.terms.specs.Lookups.{is_in}
use Rattle.solve.specs.Rows.{row_at}
use Rattle.machine.specs.Outcome as machine
use Rattle.judge_system.specs.declared.failure.Failure.{Failure}
use Rattle.judge_system.specs.Views.{failure_view}
use Rattle.judge_system.specs.declared.failures.Findings.{Findings}
use Rattle.judge_system.specs.Open.{AreNeedsOf}
use Rattle.judge_system.specs.TestSets.{tests_of}

-- there is a row for each of so many candidates, and causers are candidates
pub record AreFindings (size : ℕ) (f : Findings) : Type 0 where
  pub tests : length f.tests.now ≡ size
  pub unserved : length f.unserved.now ≡ size
  pub causers : length f.causers.now ≡ size
  pub within : (n : ℕ) → All (λ m. m < size) (row_at f.causers.now n)

-- the failure of the candidate at a place: its tests, its needs, and the ids of its causers
pub record IsFailureAt (ids : List Id) (found : Findings) (n : ℕ) (f : machine.Failure) : Type 0 where
  pub tests_are : f.tests ≡ slice_index_or (map tests_of found.tests.now) n []
  pub needs : AreNeedsOf (row_at found.unserved.now n) f.needs
  pub causers_are : f.causers ≡ map (λ m. slice_index_or ids m []) (row_at found.causers.now n)

-- an id with the failure of the candidate at its place
abbrev pub IsFailed : List Id → Findings → Id × Failure → Type 0
IsFailed ids found p = (n : ℕ) × (slice_get ids n ≡ Some p.0) × IsFailureAt ids found n (failure_view p.1)

-- the ids that are not kept
abbrev pub not_kept : List Id → List Id → List Id
not_kept kept ids = filter (λ x. not (is_in kept x)) ids

-- the candidate at a place is added with its failure, unless it is kept
pub record AddsFailure (ids kept : List Id) (found : Findings) (place : ℕ) (old new : List (Id × Failure)) :
    Type 0 where
  pub more : List (Id × Failure)
  pub added : new ≡ old ++ more
  pub ids_are : (x : Id) → slice_get ids place ≡ Some x → map (λ p. p.0) more ≡ not_kept kept (x ∷ [])
  pub failed : All (IsFailed ids found) more

-- the candidates before a place that are not kept, each with its failure
pub record AreFailures (ids kept : List Id) (found : Findings) (end : ℕ) (failed : List (Id × Failure)) : Type 0 where
  pub ids_are : map (λ p. p.0) failed ≡ not_kept kept (take end ids)
  pub each : All (IsFailed ids found) failed
