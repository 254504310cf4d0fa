use Rattle.std.proofs.Common.{◌∙◌, ap, map, drop, ◌+◌}
use Rattle.std.specs.Prelude.{max}
use Rattle.machine.specs.Outcome.{lines_code, line_code}
use Rattle.report.specs.Views.{line_view}
use Rattle.report.proofs.Texts.{codes_more}
use Rattle.smpe_json.proofs.lines.highest_code.Goals as goal

pub loop-line-preserved : goal.loop-line-preserved
loop-line-preserved c =
    ap (λ k. max k (lines_code (map line_view (drop (c.loop-line.line-index + 1) c.args.lines.now))))
    (c.max-code.ensures ∙ ap (λ k. max c.loop-line.code k)
    (c.line_code.ensures.code ∙ ap (λ x. line_code (line_view x)) c.line-item.is))
    ∙ codes_more c.args.lines.now c.loop-line.line-index c.line-item.result c.loop-line.code c.loop-line-test.true
    ∙ c.loop-line.invariant
