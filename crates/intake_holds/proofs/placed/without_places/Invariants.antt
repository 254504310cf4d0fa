use Rattle.std.proofs.Common.{◌≡◌, ◌++◌, length, map}
use Rattle.std.specs.Vec.Iter.{into_iter_items, into_iter_len}
use Rattle.intake_holds.proofs.placed.without_places.Given as goal

-- the items so far
abbrev pub invariant-loop-placed_item : goal.invariant-loop-placed_item
invariant-loop-placed_item l =
    (l.yielded ++ into_iter_items l.placed_item-iterator ≡ into_iter_items l.initial.placed_item-iterator)
    × (l.items.items ≡ map (λ p. p.item) l.yielded)
    × (into_iter_len l.placed_item-iterator ≡ length (into_iter_items l.placed_item-iterator))
