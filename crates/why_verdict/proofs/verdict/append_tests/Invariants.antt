use Rattle.std.proofs.Common.{◌≡◌, ◌++◌}
use Rattle.std.specs.List.{flat_map}
use Rattle.judge_system.specs.TestSets.{tests_of}
use Rattle.why_verdict.specs.Verdict.{test_told}
use Rattle.why_verdict.specs.VerdictFacts.{basis_of}
use Rattle.why_verdict.proofs.verdict.append_tests.Given as goal

-- what is told so far, followed by what the tests that are left tell, is all of it
abbrev pub invariant-loop-test : goal.invariant-loop-test
invariant-loop-test l =
    l.text.items ++ flat_map (test_told (basis_of l.verdict_facts)) l.test-iterator
    ≡ l.initial.text.items ++ flat_map (test_told (basis_of l.verdict_facts)) (tests_of l.fn.tests)
