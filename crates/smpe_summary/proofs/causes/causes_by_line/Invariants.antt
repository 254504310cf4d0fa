use Rattle.std.proofs.Common.{◌≡◌, map, take}
use Rattle.std.specs.List.{flat_map}
use Rattle.std.specs.Ordering.{nat_cmp}
use Rattle.std.specs.Cmp.Lexicographic.{slice_cmp}
use Rattle.sorted.specs.MultiMap.{listed}
use Rattle.report.specs.Views.{line_view}
use Rattle.smpe_summary.specs.Causes.{cause_in}
use Rattle.smpe_summary.specs.Views.{cause_view}
use Rattle.smpe_summary.proofs.causes.causes_by_line.Given as goal

abbrev pub invariant-loop-line : goal.invariant-loop-line
invariant-loop-line l =
    map cause_view l.causes.items
    ≡ flat_map (λ x. cause_in (l.fn.global) (listed (slice_cmp nat_cmp) (l.fn.blocks)) (line_view x)) (take l.line-index l.lines)
