use Rattle.store_schema.proofs.numbers.gives_number.Goals as goal

pub returns-in-None : goal.returns-in-None
returns-in-None c = (λ no. absurd cc, λ own. absurd (c.in-None.ensures.none _ own))
