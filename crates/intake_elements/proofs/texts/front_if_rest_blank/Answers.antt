use Rattle.std.proofs.Common.{◌++◌, ap₂, sym, ◌∙◌, take-append-drop}
use Rattle.intake_elements.proofs.TextLemmas.{all_kept}
use Rattle.intake_elements.proofs.texts.front_if_rest_blank.Goals as goal

pub returns-in_default : goal.returns-in_default
returns-in_default c = all_kept c.args.cards.now

pub returns-in_default-first_not_blank : goal.returns-in_default-first_not_blank
returns-in_default-first_not_blank c =
    let split = c.in-Some.ensures.cases in (
      c.in-Some.rest.now,
      sym (ap₂ (λ a b. a ++ b) split.1 split.2 ∙ take-append-drop c.args.count c.args.cards.now),
      rw c.in_default-first_not_blank.is at c.first_not_blank.ensures,
    )

pub returns : goal.returns
returns c = all_kept c.args.cards.now
