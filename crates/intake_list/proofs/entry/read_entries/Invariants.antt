use Rattle.std.proofs.Common.{◌≡◌, ◌++◌, [], drop}
use Rattle.intake_list.specs.Entries.{entries_of}
use Rattle.intake_list.proofs.entry.read_entries.Given as goal

-- the entries so far, and those of the lines that are left
abbrev pub invariant-loop-i : goal.invariant-loop-i
invariant-loop-i l = l.entries.items ++ entries_of l.kind (drop l.i l.rows) ≡ entries_of [] l.rows
