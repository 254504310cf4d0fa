use Rattle.std.proofs.Common.{subst, sym}
use Rattle.std.proofs.lemmas.Option.{IfSome_then}
use Rattle.terms.specs.Beside.{Beside}
use Rattle.intake_elements.specs.ElementTexts.{IsRecordOf}
use Rattle.intake_elements.proofs.texts.replacement_text.Goals as goal

pub returns-clause-records : goal.returns-clause-records
returns-clause-records c =
    IfSome_then c.replacement_of_lines.result c.replacement_of_lines.ensures.same (λ text same.
    subst (Beside (λ _. IsRecordOf) c.args.cards.now) (sym same) (rw c.in-Some.is at c.in_ok-lines.ensures))
