use Rattle.std.proofs.Common.{◌≡◌, map, take}
use Rattle.serde_json.specs.View.{view}
use Rattle.report.specs.Views.{line_view}
use Rattle.smpe_json.specs.Lines.{line_value}
use Rattle.smpe_json.proofs.lines.line_values.Given as goal

abbrev pub invariant-loop-line : goal.invariant-loop-line
invariant-loop-line l = map view l.values.items ≡ map (λ x. line_value (line_view x)) (take l.line-index l.lines)
