use Rattle.std.proofs.Common.{◌≡◌, ◌++◌, filter}
use Rattle.sysmods.specs.Internal.{goes_on}
use Rattle.sysmods.proofs.HoldMaps.{Entries}
use Rattle.sysmods.proofs.Internal.{External}
use Rattle.sysmods.proofs.holds.next_internal.Given as goal

abbrev pub invariant-loop-key : goal.invariant-loop-key
invariant-loop-key l = (front : Entries) × (filter (λ e. goes_on l.fn.from e.0) l.map.entries ≡ front ++ l.key-iterator)
    × External front
