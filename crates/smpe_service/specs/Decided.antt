-- What APPLY and ACCEPT decide about the candidates of a setting.
use Rattle.std.specs.Prelude.{List}
use Rattle.terms.specs.Types.{Id}
use Rattle.terms.specs.Tests.{Setting, AreSurvivors}
use Rattle.terms.specs.Judged.{install_judging}
use Rattle.machine.specs.Outcome.{Failure}
use Rattle.judge_system.specs.Decided.{AreDecided}

-- which of them are kept, and why each other one is not; the needs depend on the survivors
pub record IsDecided (s : Setting) (kept : List Id) (failed : List (Id × Failure)) : Type 0 where
  pub survivors : List Id
  pub are_survivors : AreSurvivors s survivors
  pub are_decided : AreDecided (install_judging s survivors) kept failed
