use Rattle.std.proofs.Common.{◌∙◌, ◌++◌, ap}
use Rattle.std.specs.Prelude.{max}
use Rattle.smpe_summary.specs.Text.{summary_text}
use Rattle.smpe_answer.proofs.summarized.summarize.Goals as goal

pub returns : goal.returns
returns c =
    let summary = c.in_ok-summary.summary in (
      summary,
      c.in_ok-summary.ensures,
      c.in_ok-append_summary.ensures ∙ ap (λ before. before ++ summary_text summary) c.new-text.ensures.items,
      c.max.ensures ∙ ap (λ n. max n c.args.status) c.status.ensures,
    )
