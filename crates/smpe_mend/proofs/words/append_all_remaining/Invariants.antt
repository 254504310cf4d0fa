use Rattle.std.proofs.Common.{◌≡◌, ◌++◌, drop, map}
use Rattle.std.specs.List.{flat_map}
use Rattle.report.specs.Views.{line_view}
use Rattle.smpe_mend.specs.Words.{remaining}
use Rattle.smpe_mend.proofs.words.append_all_remaining.Given as goal

-- with what the rest adds, all of it
abbrev pub invariant-loop-line : goal.invariant-loop-line
invariant-loop-line l =
    l.text.items ++ flat_map (remaining l.ids) (map line_view (drop l.line-index l.lines))
    ≡ l.fn.text.items ++ flat_map (remaining l.ids) (map line_view l.lines)
