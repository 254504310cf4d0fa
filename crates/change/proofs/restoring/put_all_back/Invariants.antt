use Rattle.std.proofs.Common.{take}
use Rattle.change.specs.Restoring.{ArePutBack}
use Rattle.change.proofs.restoring.put_all_back.Given as goal

-- the elements of the keys so far
abbrev pub invariant-loop-key : goal.invariant-loop-key
invariant-loop-key l = ArePutBack l.zone l.accepted (take l.key-index l.keys) l.initial.zone_edits l.zone_edits
