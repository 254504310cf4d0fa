use Rattle.std.proofs.Common.{◌≡◌, find, drop}
use Rattle.sysmods.specs.Choices.{choice}
use Rattle.stream.specs.Ordering.{is_open}
use Rattle.stream.proofs.order.first_open.Given as goal

-- the first open one is among the rest
abbrev pub invariant-loop-id : goal.invariant-loop-id
invariant-loop-id l = find (is_open (choice l.vers) l.placed.keys) l.ids
    ≡ find (is_open (choice l.vers) l.placed.keys) (drop l.id-index l.ids)
