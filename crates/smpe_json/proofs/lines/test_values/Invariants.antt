use Rattle.std.proofs.Common.{◌≡◌, ◌++◌, map}
use Rattle.judge_system.specs.TestSets.{tests_of}
use Rattle.serde_json.specs.View.{view}
use Rattle.smpe_json.specs.Lines.{test_value}
use Rattle.smpe_json.proofs.lines.test_values.Given as goal

-- what is made, and what is left
abbrev pub invariant-loop-test : goal.invariant-loop-test
invariant-loop-test l = map view l.values.items ++ map test_value l.test-iterator ≡ map test_value (tests_of l.fn.tests)
