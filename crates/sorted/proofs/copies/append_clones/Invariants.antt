use Rattle.std.proofs.Common.{◌≡◌, ◌++◌, take}
use Rattle.sorted.proofs.copies.append_clones.Given as goal

-- the items so far are copied
abbrev pub invariant-loop-item : goal.invariant-loop-item
invariant-loop-item g l = l.copies.items ≡ l.initial.copies.items ++ take l.item-index l.items
