-- What APPLY and ACCEPT decide, from what is kept of their numbered candidates.
use Rattle.std.specs.Prelude.{Bool, List, map}
use Rattle.terms.specs.Types.{Id}
use Rattle.terms.specs.Tests.{Setting, Fails, IsEligible}
use Rattle.terms.specs.Needs.{Needs, Serves}
use Rattle.solve.specs.System.{AreKept}
use Rattle.judge_system.specs.declared.failure.Failure.{Failure}
use Rattle.judge_system.specs.declared.judged.Judged.{Judged}
use Rattle.judge_system.specs.ByNumber.{IsDecidedBy}
use Rattle.judge_system.specs.Views.{why_failed}
use Rattle.judge_system.proofs.Judging.{decided_of}
use Rattle.judge.specs.Installs.{IsInstallJudged}
use Rattle.smpe_service.specs.Decided.{IsDecided}

pub is_decided : (s : Setting) (j : Judged) → IsInstallJudged s j → (flags : List Bool) → AreKept j.system flags
    → (kept : List Id) (failed : List (Id × Failure)) → IsDecidedBy j flags kept failed
    → IsDecided s kept (map why_failed failed)
is_decided s j is flags are_kept kept failed by = record {
  survivors = is.survivors;
  are_survivors = is.are_survivors;
  are_decided = decided_of (Fails s) (IsEligible s) (Needs s is.survivors) (Serves s.choice) s.cands j is.judged flags
      are_kept kept failed by;
}
