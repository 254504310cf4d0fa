use Rattle.std.proofs.Common.{◌≡◌, AllPairs, IsPermutation, take}
use Rattle.sysmods.specs.Choices.{choice}
use Rattle.terms.specs.Over.{IsOver}
use Rattle.change.proofs.ordering.sort_by_over.Given as goal

-- the ids so far are in order
abbrev pub invariant-loop-id : goal.invariant-loop-id
invariant-loop-id l = record {
  overs : l.overs ≡ l.initial.overs;
  same : IsPermutation (take l.id-index l.ids) l.ordered.items;
  order : AllPairs (λ x y. IsOver (choice l.initial.overs) y x) l.ordered.items;
}
