use Rattle.std.proofs.Common.{◌≡◌, map, drop}
use Rattle.std.specs.Prelude.{max}
use Rattle.machine.specs.Outcome.{lines_code}
use Rattle.report.specs.Views.{line_view}
use Rattle.smpe_json.proofs.lines.highest_code.Given as goal

abbrev pub invariant-loop-line : goal.invariant-loop-line
invariant-loop-line l =
    max l.code (lines_code (map line_view (drop l.line-index l.lines))) ≡ lines_code (map line_view l.lines)
