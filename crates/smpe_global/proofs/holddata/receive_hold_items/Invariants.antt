use Rattle.std.proofs.Common.{◌≡◌, ◌++◌, length}
use Rattle.std.specs.Vec.Iter.{into_iter_items, into_iter_len}
use Rattle.machine.specs.Runs.{Runs}
use Rattle.machine.specs.Receiving.{TakesHoldItem}
use Rattle.mcs.specs.HoldItems.{items}
use Rattle.smpe_global.specs.Taken.{IsTaken}
use Rattle.smpe_global.proofs.holddata.receive_hold_items.Given as goal

-- the items so far
abbrev pub invariant-loop-item : goal.invariant-loop-item
invariant-loop-item l =
    (l.yielded ++ into_iter_items l.item-iterator ≡ into_iter_items l.initial.item-iterator)
    × IsTaken (Runs TakesHoldItem l.initial.global (items l.yielded)) l.initial.global l.global l.initial.change
    l.change
    × (into_iter_len l.item-iterator ≡ length (into_iter_items l.item-iterator))
