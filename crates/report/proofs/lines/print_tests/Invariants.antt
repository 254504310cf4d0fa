use Rattle.std.proofs.Common.{◌∷◌, []}
use Rattle.std.specs.Prelude.{codes}
use Rattle.std.specs.List.{flat_map}
use Rattle.terms.specs.Spelling.{test_text}
use Rattle.machine.specs.Report.{detail_line}
use Rattle.judge_system.specs.TestSets.{tests_of}
use Rattle.report.proofs.UnderWay.{UnderWay}
use Rattle.report.proofs.lines.print_tests.Given as goal

abbrev pub invariant-loop-test : goal.invariant-loop-test
invariant-loop-test g l =
    UnderWay g.W.Sink l.initial.page l.page
    (flat_map (λ t. detail_line (codes "TEST" ∷ test_text t ∷ [])) (tests_of l.fn.tests))
    (flat_map (λ t. detail_line (codes "TEST" ∷ test_text t ∷ [])) l.test-iterator)
