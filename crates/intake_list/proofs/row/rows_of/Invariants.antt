use Rattle.std.proofs.Common.{◌≡◌, ◌++◌, ◌+◌, map, drop}
use Rattle.intake_list.specs.Rows.{rows_from}
use Rattle.intake_list.proofs.row.rows_of.Given as goal

-- the rows so far, and what becomes of the lines that are left
abbrev pub invariant-loop-i : goal.invariant-loop-i
invariant-loop-i l =
    l.rows.items ++ rows_from l.fn.control (l.i + 1) (map (λ line. line.now) (drop l.i l.lines))
    ≡ rows_from l.fn.control 1 (map (λ line. line.now) l.lines)
