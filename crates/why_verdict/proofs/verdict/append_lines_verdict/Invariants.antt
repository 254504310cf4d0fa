use Rattle.std.proofs.Common.{◌≡◌, ◌++◌, take}
use Rattle.std.specs.List.{flat_map}
use Rattle.why_verdict.specs.Verdict.{verdict_told}
use Rattle.why_verdict.specs.VerdictFacts.{basis_of}
use Rattle.report.specs.Views.{line_view}
use Rattle.why_verdict.proofs.verdict.append_lines_verdict.Given as goal

abbrev pub invariant-loop-line : goal.invariant-loop-line
invariant-loop-line l =
    l.text.items ≡ l.initial.text.items ++ flat_map (λ line. verdict_told l.id (basis_of l.verdict_facts) (line_view line))
    (take l.line-index l.lines)
