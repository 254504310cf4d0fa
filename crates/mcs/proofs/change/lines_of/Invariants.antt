use Rattle.std.proofs.Common.{◌≡◌, take}
use Rattle.mcs.proofs.change.lines_of.Given as goal

abbrev pub invariant-loop-record : goal.invariant-loop-record
invariant-loop-record l = l.lines.items ≡ take l.record-index l.inline
