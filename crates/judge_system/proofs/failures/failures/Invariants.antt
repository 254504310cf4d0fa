use Rattle.judge_system.specs.Findings.{AreFailures}
use Rattle.judge_system.proofs.failures.failures.Given as goal

abbrev pub invariant-loop-i : goal.invariant-loop-i
invariant-loop-i l = AreFailures l.ids l.kept l.findings l.i l.failed.items
