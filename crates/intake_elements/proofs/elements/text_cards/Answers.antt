use Rattle.std.proofs.Common.{◌≡◌, Some, None, ap, sym, ◌∙◌}
use Rattle.terms.specs.Types.{Text}
use Rattle.intake_read.specs.Stated.{text_in}
use Rattle.intake_elements.proofs.elements.text_cards.Goals as goal

some_none : {t : Text} → Some t ≡ None → ⊥
some_none e = cc

pub returns-in_default : goal.returns-in_default
returns-in_default c = λ none. c.as_slice.ensures.value

pub returns : goal.returns
returns c = λ none. absurd (some_none (sym (ap text_in c.in-Some.is) ∙ none))
