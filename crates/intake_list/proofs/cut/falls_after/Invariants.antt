use Rattle.std.proofs.Common.{◌≡◌, ◌++◌, drop}
use Rattle.intake_list.specs.Cut.{falls_after}
use Rattle.intake_list.proofs.cut.falls_after.Given as goal

-- the lines so far, and those of the entries that are left
abbrev pub invariant-loop-entry : goal.invariant-loop-entry
invariant-loop-entry l =
    l.found.items ++ falls_after l.before (drop l.entry-index l.entries) ≡ falls_after l.fn.first l.entries
