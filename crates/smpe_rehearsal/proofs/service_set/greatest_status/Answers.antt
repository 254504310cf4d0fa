use Rattle.std.proofs.Common.{◌∙◌, ap₂, sym}
use Rattle.std.specs.Prelude.{max}
use Rattle.smpe_rehearsal.proofs.Greatest.{greatest_taken}
use Rattle.smpe_rehearsal.proofs.service_set.greatest_status.Goals as goal

pub loop-answer-preserved : goal.loop-answer-preserved
loop-answer-preserved c = c.max-status.ensures ∙ ap₂ max c.loop-answer.invariant c.status_of.ensures
    ∙ sym (greatest_taken c.args.answers.now c.loop-answer.answer-index _ c.loop-answer-test.true)
