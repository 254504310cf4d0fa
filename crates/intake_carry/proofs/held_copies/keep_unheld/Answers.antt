use Rattle.std.proofs.Common.{not, rules, tests}
use Rattle.std.proofs.lemmas.Fn.{filter_same}
use Rattle.intake_carry.specs.Carried.{is_held_by_copy}
use Rattle.intake_carry.proofs.held_copies.keep_unheld.Goals as goal

pub returns : goal.returns
returns c = λ items are.
    filter_same _ (λ p. not (is_held_by_copy items p)) _ (λ x b q k. search (rules, tests)) _ _
    c.retain.ensures.filtered
