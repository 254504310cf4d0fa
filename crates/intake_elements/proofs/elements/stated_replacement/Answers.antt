use Rattle.std.proofs.Common.{refl, subst}
use Rattle.intake_elements.specs.ElementTexts.{AreRecordsOf}
use Rattle.intake_elements.proofs.elements.stated_replacement.Goals as goal

pub returns : goal.returns
returns c =
    let libraries = rw c.in-Some.is at c.in_ok-libraries.ensures in
    let cards = rw c.in-Some-2.is at c.in_ok-cards.ensures in
    let lines = rw c.in-Some-3.is at c.in_ok-lines.ensures.records in (
      (refl, refl, refl),
      (libraries, λ none. subst (λ l. AreRecordsOf l c.in-Some-3.lines.items) (cards none) lines),
    )
