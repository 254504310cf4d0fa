use Rattle.std.proofs.Common.{◌≡◌, filter, length}
use Rattle.std.specs.Map.{values_of}
use Rattle.sysmods.specs.Keys.{IsByKey}
use Rattle.sysmods.proofs.Internal.{stays, DoneBelow}
use Rattle.sysmods.proofs.holds.Holds.drop_internal.Given as goal

abbrev pub invariant-loop-key : goal.invariant-loop-key
invariant-loop-key l = record {
  kept : IsByKey l.self-inside.map.entries;
  same : filter (stays l.fn.id) (values_of l.self-inside.map.entries) ≡ filter (stays l.fn.id) l.fn.self;
  of : l.from.id ≡ l.fn.id;
  done : DoneBelow l.fn.id l.from l.self-inside.map.entries;
}

abbrev pub decreases-loop-key : goal.decreases-loop-key
decreases-loop-key l = length l.self-inside.map.entries
