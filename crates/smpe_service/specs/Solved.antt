-- What the kept set of the numbered candidates decides about their ids.
use Rattle.std.specs.Prelude.{Bool, List}
use Rattle.terms.specs.Types.{Id}
use Rattle.solve.specs.System.{AreKept}
use Rattle.judge_system.specs.declared.failure.Failure.{Failure}
use Rattle.judge_system.specs.declared.judged.Judged.{Judged}
use Rattle.judge_system.specs.ByNumber.{IsDecidedBy}

-- which of them are kept, and why each other one is not
pub record IsSolved (j : Judged) (kept : List Id) (failed : List (Id × Failure)) : Type 0 where
  pub flags : List Bool
  pub are_kept : AreKept j.system flags
  pub decided : IsDecidedBy j flags kept failed
