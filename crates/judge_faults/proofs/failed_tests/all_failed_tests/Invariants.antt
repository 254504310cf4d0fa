use Rattle.std.proofs.Common.{◌≡◌, take}
use Rattle.terms.specs.Beside.{Beside}
use Rattle.judge_system.specs.TestSets.{tests_of}
use Rattle.judge_faults.specs.Rows.{row_of}
use Rattle.judge_faults.proofs.failed_tests.all_failed_tests.Given as goal

abbrev pub invariant-loop-i : goal.invariant-loop-i
invariant-loop-i l =
    Beside (λ n own tests. tests_of tests ≡ row_of l.clashing.keys n own) (take l.i-counter l.faults) l.sets.items
