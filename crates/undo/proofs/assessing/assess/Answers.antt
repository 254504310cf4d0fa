use Rattle.std.proofs.Common.{◌∙◌, ap, map, subst}
use Rattle.std.proofs.lemmas.Simd.{map-map}
use Rattle.terms.specs.Lookups.{IsRising}
use Rattle.judge_system.specs.TestSets.{tests_of}
use Rattle.undo.specs.Scopes.{restoring}
use Rattle.undo.specs.RestoreTests.{failed_tests}
use Rattle.undo.proofs.RestoreJudged.{are_judged}
use Rattle.undo.proofs.assessing.assess.Goals as goal

pub returns-clause-assessed : goal.returns-clause-assessed
returns-clause-assessed c = λ list are.
    let r = restoring c.args.vers.now c.args.zone.now c.args.accepted.now in
    let rows = c.in_ok-all_failed_tests.field-0.items in
    rw c.new.ensures.items
    (are_judged r c.in_ok-applied.ensures.form list c.args.ids.now are (map tests_of rows)
    (ap (map tests_of) (rw c.as_slice-candidates.ensures.items at c.in_ok-all_failed_tests.ensures)
    ∙ map-map tests_of (failed_tests r) c.args.ids.now)
    c.in_ok-needs_in_restore.field-0.items c.in_ok-needs_in_restore.ensures)

pub returns-clause-rising : goal.returns-clause-rising
returns-clause-rising c = subst IsRising c.as_slice-candidates.ensures.items c.as_slice-candidates.ensures.rising
