use Rattle.std.proofs.Common.{◌≡◌, ◌++◌, map, take}
use Rattle.std.specs.List.{flat_map}
use Rattle.why_verdict.specs.Verdict.{supply_by}
use Rattle.report.specs.Views.{line_view}
use Rattle.why_verdict.proofs.besides.append_suppliers.Given as goal

abbrev pub invariant-loop-by : goal.invariant-loop-by
invariant-loop-by l =
    l.text.items ≡ l.initial.text.items ++ flat_map (λ y. flat_map (supply_by l.kind l.id y) (map line_view l.lines))
    (take l.by-index l.ids)
