use Rattle.std.proofs.Common.{take}
use Rattle.change.specs.Entries.{HasPutEntries}
use Rattle.change.proofs.entries.put_entries.Given as goal

-- the entries so far are put
abbrev pub invariant-loop-id : goal.invariant-loop-id
invariant-loop-id l = HasPutEntries l.deleting l.plan (take l.id-index l.id-items) l.initial.zone_edits l.zone_edits
