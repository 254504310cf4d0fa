-- The assessment of the candidates of a RESTORE, by their ids and by their numbers.
use Rattle.std.specs.Prelude.{List, map}
use Rattle.terms.specs.Types.{Id}
use Rattle.terms.specs.Lookups.{is_in}
use Rattle.terms.specs.Needs.{Serves}
use Rattle.terms.specs.Restore.{Restoring, FailsRestore, MayBeRestored, NeedsInRestore}
use Rattle.judge_system.specs.declared.judged.Judged.{Judged}
use Rattle.judge_system.specs.declared.stated.Assessment.{Assessment}
use Rattle.judge_system.specs.Judged.{AreJudged, IsJudged}
use Rattle.judge_system.specs.TestSets.{tests_of}

-- it follows the tests and needs of a RESTORE with this list
abbrev pub IsRestoreAssessed : Restoring → List Id → List Id → Assessment → Type 0
IsRestoreAssessed r list cands said =
    AreJudged (FailsRestore r) (MayBeRestored r list) (NeedsInRestore r (is_in list)) (Serves r.choice) cands
    (map tests_of said.tests.items) said.needs.items said.superseded.items

-- the same for the numbered candidates
abbrev pub IsRestoreJudged : Restoring → List Id → List Id → Judged → Type 0
IsRestoreJudged r list cands j =
    IsJudged (FailsRestore r) (MayBeRestored r list) (NeedsInRestore r (is_in list)) (Serves r.choice) cands j
