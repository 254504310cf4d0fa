use Rattle.std.proofs.Common.{◌≡◌, ◌++◌}
use Rattle.std.specs.List.{flat_map}
use Rattle.judge_system.specs.TestSets.{tests_of}
use Rattle.smpe_mend.specs.Words.{test_line}
use Rattle.smpe_mend.proofs.words.append_tests.Given as goal

-- with what the rest adds, all of it
abbrev pub invariant-loop-test : goal.invariant-loop-test
invariant-loop-test l =
    l.text.items ++ flat_map test_line l.test-iterator ≡ l.fn.text.items ++ flat_map test_line (tests_of l.fn.tests)
