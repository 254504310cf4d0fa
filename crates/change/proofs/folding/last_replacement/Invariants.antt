use Rattle.std.proofs.Common.{◌≤◌, All, drop, length}
use Rattle.std.specs.Prelude.{IsFalse}
use Rattle.terms.specs.Changes.{has_replacement}
use Rattle.change.proofs.folding.last_replacement.Given as goal

-- none of those behind replaces the element
abbrev pub invariant-loop-place : goal.invariant-loop-place
invariant-loop-place l = record {
  within : l.place ≤ length l.changers;
  back : All (λ x. IsFalse (has_replacement l.global x l.elem_type l.name)) (drop l.place l.changers);
}

abbrev pub decreases-loop-place : goal.decreases-loop-place
decreases-loop-place l = l.place
