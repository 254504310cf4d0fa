use Rattle.std.proofs.Common.{◌≡◌, ◌++◌, take}
use Rattle.std.specs.List.{flat_map}
use Rattle.std.specs.Ordering.{nat_cmp}
use Rattle.std.specs.Cmp.Lexicographic.{slice_cmp}
use Rattle.sorted.specs.MultiMap.{listed}
use Rattle.report.specs.Views.{line_view}
use Rattle.smpe_summary.specs.Groups.{line_member, other_member}
use Rattle.smpe_summary.proofs.members.members_of.Given as goal

abbrev pub invariant-loop-line : goal.invariant-loop-line
invariant-loop-line l =
    l.members.items
    ≡ flat_map (λ x. line_member l.fn.asked (listed (slice_cmp nat_cmp) l.fn.supers) (line_view x))
    (take l.line-index l.line-items)

abbrev pub invariant-loop-id : goal.invariant-loop-id
invariant-loop-id l =
    l.members.items
    ≡ l.initial.members.items ++ flat_map (other_member l.fn.asked l.fn.candidates) (take l.id-index l.id-items)
