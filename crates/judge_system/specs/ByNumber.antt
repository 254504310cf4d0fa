-- Which candidates are kept and why each other one is not, by numbers.
use Rattle.std.specs.Prelude.{◌≡◌, ◌↔◌, ◌<◌, ℕ, Bool, List, Some, AllPairs, Contains, IsTrue, Vec, length, map}
use Rattle.std.specs.Prelude.{slice_get}
use Rattle.std.specs.declared.alloc.Global.{Global}
use Rattle.terms.specs.Types.{Id}
use Rattle.terms.specs.Lookups.{IsRising}
use Rattle.solve.specs.System.{System, holds}
use Rattle.solve.specs.Causes as numbered
use Rattle.solve.specs.Rows.{row_at}
use Rattle.judge_system.specs.declared.failure.Failure.{Failure}
use Rattle.judge_system.specs.declared.failures.Findings.{Findings}
use Rattle.judge_system.specs.declared.judged.Judged.{Judged}
use Rattle.judge_system.specs.Findings.{AreFailures}
use Rattle.judge_system.specs.Numbered.{need_of}
use Rattle.judge_system.specs.Open.{HaveOpen}

-- each number has its row, with its causers in their order
pub record AreCausers (p : System) (flags : List Bool) (rows : List (Vec ℕ Global)) : Type 0 where
  pub size : length rows ≡ p.size
  pub exact : (x y : ℕ) → Contains (row_at rows x) y ↔ numbered.IsCauser p flags x y
  pub rising : (x : ℕ) → AllPairs (λ a b. a < b) (row_at rows x)

-- The flags say which candidates are kept. Each other id has its failure, from what is found at its number: the tests,
-- the needs that no kept candidate serves, and the causers.
pub record IsDecidedBy (j : Judged) (flags : List Bool) (kept : List Id) (failed : List (Id × Failure)) :
    Type 0 where
  pub rising : IsRising kept
  pub members : (x : Id) → Contains kept x
      ↔ ((n : ℕ) × (slice_get j.ids.keys n ≡ Some x) × IsTrue (holds flags n))
  pub found : Findings
  pub tests_are : found.tests.now ≡ j.tests.items
  pub opened : HaveOpen flags j.system.needs (map need_of j.needs.items) (length j.needs.items) found.unserved.now
  pub causers : AreCausers j.system flags found.causers.now
  pub failures : AreFailures j.ids.keys kept found (length j.ids.keys) failed
