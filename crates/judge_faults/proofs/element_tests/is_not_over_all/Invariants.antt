use Rattle.std.proofs.Common.{◌≡◌, All, take}
use Rattle.terms.specs.Over.{IsOver}
use Rattle.sysmods.specs.Choices.{choice}
use Rattle.judge_faults.proofs.element_tests.is_not_over_all.Given as goal

abbrev pub invariant-loop-other : goal.invariant-loop-other
invariant-loop-other l = record {
  same : l.overs ≡ l.fn.overs;
  all : All (λ z. IsOver (choice l.fn.overs) l.id z) (take l.other-index l.others);
}
