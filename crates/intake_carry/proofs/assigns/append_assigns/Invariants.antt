use Rattle.std.proofs.Common.{◌≡◌, ◌++◌, length, map}
use Rattle.std.specs.Vec.Iter.{into_iter_items, into_iter_len}
use Rattle.mcs.specs.declared.file.Item.TheVariants as item
use Rattle.intake_carry.proofs.assigns.append_assigns.Given as goal

-- the assignments so far
abbrev pub invariant-loop-assign : goal.invariant-loop-assign
invariant-loop-assign l =
    (l.yielded ++ into_iter_items l.assign-iterator ≡ into_iter_items l.initial.assign-iterator)
    × (l.items.items ≡ l.fn.items.items ++ map item.Assign l.yielded)
    × (into_iter_len l.assign-iterator ≡ length (into_iter_items l.assign-iterator))
