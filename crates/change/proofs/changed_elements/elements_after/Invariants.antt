use Rattle.std.proofs.Common.{◌≡◌}
use Rattle.sysmods.specs.Choices.{choice}
use Rattle.change.proofs.AllElements.{AreMade}
use Rattle.change.proofs.changed_elements.elements_after.Given as goal

-- what is changed so far is there, as it is after the install
abbrev pub invariant-loop-key : goal.invariant-loop-key
invariant-loop-key l = record {
  overs : l.overs ≡ l.initial.overs;
  made : AreMade l.initial.overs.global.now (choice l.initial.overs) l.zone l.deletions l.effective
      l.initial.key-iterator l.key-iterator l.elements.items;
}
