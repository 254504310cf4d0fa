-- The assessment of the candidates of an APPLY or ACCEPT, by their ids and by their numbers.
use Rattle.std.specs.Prelude.{Bool, List, map}
use Rattle.terms.specs.Types.{Id, Zone}
use Rattle.terms.specs.Tests.{Setting, Fails, IsEligible, AreSurvivors}
use Rattle.terms.specs.Needs.{Needs, Serves}
use Rattle.solve.specs.System.{AreKept}
use Rattle.judge_system.specs.declared.failure.Failure.{Failure}
use Rattle.judge_system.specs.declared.judged.Judged.{Judged}
use Rattle.judge_system.specs.declared.stated.Assessment.{Assessment}
use Rattle.judge_system.specs.ByNumber.{IsDecidedBy}
use Rattle.judge_system.specs.Judged.{AreJudged, IsJudged}
use Rattle.judge_system.specs.TestSets.{tests_of}
use Rattle.change.specs.Together.{MayBeInstalled}
use Rattle.judge_needs.specs.Pairs.{AreBypassed}

-- It follows the command's tests and needs. The needs depend on the survivors.
pub record IsInstallAssessed (s : Setting) (said : Assessment) : Type 0 where
  pub survivors : List Id
  pub are_survivors : AreSurvivors s survivors
  pub are_judged : AreJudged (Fails s) (IsEligible s) (Needs s survivors) (Serves s.choice) s.cands
      (map tests_of said.tests.items) said.needs.items said.superseded.items
  pub bypassed : AreBypassed s s.cands said.bypassed.items

-- the same for the numbered candidates
pub record IsInstallJudged (s : Setting) (j : Judged) : Type 0 where
  pub survivors : List Id
  pub are_survivors : AreSurvivors s survivors
  pub judged : IsJudged (Fails s) (IsEligible s) (Needs s survivors) (Serves s.choice) s.cands j
  pub bypassed : AreBypassed s s.cands j.bypassed.items

-- what a solver keeps of the candidates may be installed together
abbrev pub KeepsTogether : Judged → Zone → Type 0
KeepsTogether j zone = (flags : List Bool) (kept : List Id) (failed : List (Id × Failure)) → AreKept j.system flags
    → IsDecidedBy j flags kept failed → MayBeInstalled j zone kept
