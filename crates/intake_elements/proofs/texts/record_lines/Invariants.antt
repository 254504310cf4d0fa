use Rattle.std.proofs.Common.{take}
use Rattle.terms.specs.Beside.{Beside}
use Rattle.intake_elements.specs.ElementTexts.{IsRecordOf}
use Rattle.intake_elements.proofs.texts.record_lines.Given as goal

abbrev pub invariant-loop-card : goal.invariant-loop-card
invariant-loop-card l = Beside (λ _. IsRecordOf) (take l.card-index l.cards) l.lines.items
