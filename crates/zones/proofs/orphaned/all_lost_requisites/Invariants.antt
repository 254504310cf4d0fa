use Rattle.std.proofs.Common.{◌≡◌, take}
use Rattle.zones.specs.Gone.{lost_by}
use Rattle.zones.proofs.orphaned.all_lost_requisites.Given as goal

-- what the SYSMODs of the entries so far lose
abbrev pub invariant-loop-entry : goal.invariant-loop-entry
invariant-loop-entry l = l.found.items ≡ lost_by l.left (take l.entry-index l.entry-items)
