use Rattle.std.proofs.Common.{◌≡◌, ◌++◌, map, take}
use Rattle.std.specs.List.{flat_map}
use Rattle.why_verdict.specs.Verdict.{need_told}
use Rattle.report.specs.FactViews.{fact_view}
use Rattle.judge_system.specs.Views.{need_view}
use Rattle.why_verdict.proofs.verdict.append_needs.Given as goal

abbrev pub invariant-loop-need : goal.invariant-loop-need
invariant-loop-need l =
    l.text.items ≡ l.initial.text.items ++ flat_map (λ n. need_told (map fact_view l.facts) (need_view n)) (take
    l.need-index l.needs)
