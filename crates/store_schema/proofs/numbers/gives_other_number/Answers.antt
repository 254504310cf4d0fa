use Rattle.store_schema.proofs.numbers.gives_other_number.Goals as goal

pub returns-in-None : goal.returns-in-None
returns-in-None c = (λ no. absurd cc, λ other. absurd (c.in-None.ensures.none other.0 other.1))
