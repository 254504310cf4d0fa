-- What RESTORE decides about the candidates of its list.
use Rattle.std.specs.Prelude.{List, map}
use Rattle.terms.specs.Types.{Id}
use Rattle.terms.specs.Restore.{Restoring, restore_judging}
use Rattle.judge_system.specs.declared.failure.Failure.{Failure}
use Rattle.judge_system.specs.Decided.{AreDecided}
use Rattle.judge_system.specs.Views.{why_failed}

-- which of the candidates are kept, and why each other one is not
abbrev pub IsRestoreDecided : Restoring → List Id → List Id → List Id → List (Id × Failure) → Type 0
IsRestoreDecided r list cands kept failed =
    AreDecided (record (restore_judging r list) { cands = cands }) kept (map why_failed failed)
