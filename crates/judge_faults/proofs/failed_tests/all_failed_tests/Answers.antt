use Rattle.std.proofs.Common.{◌≡◌, ◌∙◌, ap, filter, arith}
use Rattle.terms.specs.Failures.{all_tests}
use Rattle.judge_system.specs.TestSets.{tests_of}
use Rattle.judge_faults.specs.Rows.{row_of, fails_test}
use Rattle.terms.proofs.BesideLists.{beside_at, beside_through}
use Rattle.judge_faults.proofs.failed_tests.all_failed_tests.Goals as goal

pub loop-i-preserved : goal.loop-i-preserved
loop-i-preserved c =
    beside_at (λ n own tests. tests_of tests ≡ row_of c.args.clashing.now.keys n own) c.args.faults.now
    c.loop-i.sets.items c.push.new.self.items c.loop-i.i-counter c.item_at.result
    c.failed_test_set-tests.result c.item_at.ensures
    c.in_ok-push.ensures.items
    (c.failed_test_set-tests.ensures
    ∙ ap (λ b. filter (fails_test c.item_at.result b) all_tests) c.contains-clashes.ensures)
    c.loop-i.invariant

pub returns : goal.returns
returns c =
    beside_through (λ n own tests. tests_of tests ≡ row_of c.args.clashing.now.keys n own) c.args.faults.now
    c.loop-i.sets.items c.loop-i.i-counter (omega arith) c.loop-i.invariant
