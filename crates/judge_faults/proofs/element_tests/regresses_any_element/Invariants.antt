use Rattle.std.proofs.Common.{◌≡◌, All, take}
use Rattle.sysmods.specs.Choices.{choice}
use Rattle.judge_faults.specs.Own.{IsLowerAt}
use Rattle.zones.specs.Gone.{left_of}
use Rattle.judge_faults.proofs.element_tests.regresses_any_element.Given as goal

abbrev pub invariant-loop-change : goal.invariant-loop-change
invariant-loop-change l = record {
  same : l.overs ≡ l.fn.overs;
  not_lower : All (λ h. ¬ IsLowerAt (choice l.fn.overs) (left_of l.view) l.id h) (take l.change-index l.changes);
}
