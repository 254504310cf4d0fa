use Rattle.std.proofs.Common.{◌≡◌, take}
use Rattle.std.specs.List.{flat_map}
use Rattle.std.specs.Ordering.{nat_cmp}
use Rattle.std.specs.Cmp.Lexicographic.{slice_cmp}
use Rattle.sorted.specs.MultiMap.{listed}
use Rattle.terms.specs.Types.{Id}
use Rattle.report.specs.Views.{line_view}
use Rattle.smpe_summary.specs.Blocked.{blocked_in}
use Rattle.smpe_summary.proofs.blockers.blocked.Given as goal

abbrev pub invariant-loop-line : goal.invariant-loop-line
invariant-loop-line l =
    (y : Id) → listed (slice_cmp nat_cmp) l.blocks y
    ≡ flat_map (λ x. blocked_in l.fn.asked (listed (slice_cmp nat_cmp) l.fn.supers) y (line_view x))
    (take l.line-index l.line-items)
