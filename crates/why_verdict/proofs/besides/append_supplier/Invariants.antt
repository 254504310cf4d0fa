use Rattle.std.proofs.Common.{◌≡◌, ◌++◌, take}
use Rattle.std.specs.List.{flat_map}
use Rattle.why_verdict.specs.Verdict.{supply_by}
use Rattle.report.specs.Views.{line_view}
use Rattle.why_verdict.proofs.besides.append_supplier.Given as goal

abbrev pub invariant-loop-line : goal.invariant-loop-line
invariant-loop-line l =
    l.text.items ≡ l.initial.text.items ++ flat_map (λ line. supply_by l.kind l.id l.by (line_view line)) (take
    l.line-index l.lines)
