use Rattle.std.proofs.Common.{◌≡◌, ◌++◌, drop}
use Rattle.intake_list.specs.Unread.{unread_from, unread}
use Rattle.intake_list.proofs.unread.unread_lines.Given as goal

-- the lines so far, and those of the rows that are left
abbrev pub invariant-loop-row : goal.invariant-loop-row
invariant-loop-row l = l.found.items ++ unread_from l.within (drop l.row-index l.rows) ≡ unread l.rows
