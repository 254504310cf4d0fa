use Rattle.std.proofs.Common.{◌≡◌, take}
use Rattle.change.specs.Puts.{less_elements}
use Rattle.change.proofs.installing.remove_deleted_elements.Given as goal

-- the elements so far are removed as far as they are deleted
abbrev pub invariant-loop-element : goal.invariant-loop-element
invariant-loop-element l = l.edits ≡ less_elements l.deleting l.initial.edits (take l.element-index l.element-items)
