use Rattle.std.proofs.Common.{◌≡◌, map, drop}
use Rattle.intake_list.specs.Rows.{has_control}
use Rattle.intake_list.proofs.row.has_control.Given as goal

-- what the lines that are left say is what all say
abbrev pub invariant-loop-line : goal.invariant-loop-line
invariant-loop-line l =
    has_control (map (λ line. line.now) (drop l.line-index l.lines)) ≡ has_control (map (λ line. line.now) l.lines)
