use Rattle.std.proofs.Common.{◌≡◌, ◌∙◌, Bool, true, false, refl, sym}
use Rattle.std.specs.Prelude.{◌||◌}
use Rattle.terms.specs.Failures.{all_tests}
use Rattle.judge_system.specs.TestSets.{is_in_set}
use Rattle.judge_system.proofs.TestSets.{any_filter}
use Rattle.why_verdict.specs.Conflicts.{by_clash}
use Rattle.why_verdict.proofs.statuses.has_clash_test.Goals as goal

or_false : (b : Bool) → b ≡ (b || false)
or_false true = refl
or_false false = refl

pub returns : goal.returns
returns c = or_false c.args.tests.in_clash ∙ sym (any_filter by_clash (is_in_set c.args.tests) all_tests)
