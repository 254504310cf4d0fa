use Rattle.std.proofs.Common.{◌≡◌, take}
use Rattle.std.specs.List.{flat_map}
use Rattle.smpe_summary.specs.Asked.{meets, id_where}
use Rattle.report.specs.Views.{line_view}
use Rattle.smpe_summary.proofs.lines.ids_where.Given as goal

abbrev pub invariant-loop-line : goal.invariant-loop-line
invariant-loop-line l =
    l.found.items ≡ flat_map (λ line. id_where (meets l.fn.condition) (line_view line)) (take l.line-index l.lines)
