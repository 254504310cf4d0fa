use Rattle.std.proofs.Common.{◌≡◌, map, take}
use Rattle.report.specs.Views.{line_view}
use Rattle.smpe_service.specs.Lines.{line_in}
use Rattle.smpe_service.proofs.restored_lines.restore_lines.Given as goal

-- the lines of the ids so far
abbrev pub invariant-loop-id : goal.invariant-loop-id
invariant-loop-id l = map line_view l.lines.items ≡ map (line_in l.global l.kept l.failed) (take l.id-index l.ids)
