use Rattle.std.proofs.Common.{◌∙◌, ap₂, sym}
use Rattle.std.specs.Prelude.{max}
use Rattle.smpe_answer.proofs.documented.document.Goals as goal

pub returns : goal.returns
returns c = (
  c.in_ok-summary.summary,
  c.in_ok-summary.ensures,
  c.max-status.ensures ∙ ap₂ max c.status.ensures c.package_status.ensures,
  rw (sym c.facts.view_is) c.in_ok-text.ensures,
)
