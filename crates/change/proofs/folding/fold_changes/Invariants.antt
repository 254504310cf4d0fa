use Rattle.std.proofs.Common.{◌≡◌, take, IfSome}
use Rattle.sysmods.specs.Choices.{choice}
use Rattle.change.specs.Folding.{IsFolded}
use Rattle.change.proofs.folding.fold_changes.Given as goal

-- the element is what the SYSMODs so far make of it
abbrev pub invariant-loop-id : goal.invariant-loop-id
invariant-loop-id l = record {
  folded : IsFolded l.vers.global.now (choice l.vers) l.elem_type l.name (take l.id-index l.changers) l.initial.element
      l.element;
  keyed : IfSome l.element (λ e. (e.elem_type ≡ l.elem_type) × (e.name ≡ l.name));
}
