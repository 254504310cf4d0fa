use Rattle.report.specs.Views.{line_view}
use Rattle.smpe_json.specs.Lines.{line_value}
use Rattle.smpe_json.proofs.Listed.{seen_all}
use Rattle.smpe_json.proofs.lines.line_values.Goals as goal

pub returns : goal.returns
returns c =
    seen_all line_value line_view c.args.lines.now c.loop-line.line-index c.loop-line.values.items
    c.loop-line-test.false c.loop-line.invariant
