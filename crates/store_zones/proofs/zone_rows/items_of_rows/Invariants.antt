use Rattle.std.proofs.Common.{◌≡◌, ◌++◌, length, map}
use Rattle.std.specs.Vec.Iter.{into_iter_items, into_iter_len}
use Rattle.store_zones.proofs.zone_rows.items_of_rows.Given as goal

-- the items of the rows so far
abbrev pub invariant-loop-row : goal.invariant-loop-row
invariant-loop-row g l =
    (l.yielded ++ into_iter_items l.row-iterator ≡ into_iter_items l.initial.row-iterator)
    × (l.items.items ≡ map (λ r. r.item) l.yielded)
    × (into_iter_len l.row-iterator ≡ length (into_iter_items l.row-iterator))
