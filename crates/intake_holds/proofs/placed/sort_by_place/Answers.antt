use Rattle.std.proofs.Common.{rules}
use Rattle.std.proofs.lemmas.List.Sorted.{answers_always}
use Rattle.intake_holds.proofs.placed.sort_by_place.Goals as goal

pub returns-clause-rising : goal.returns-clause-rising
returns-clause-rising c = c.sort_unstable_by_key.ensures.sorted (λ p. p.place)
    (answers_always _ _ _ (λ f a r h q. search rules))
