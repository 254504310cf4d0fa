use Rattle.std.proofs.Common.{arith}
use Rattle.std.proofs.lemmas.Int.{ints}
use Rattle.smpe_invocation.proofs.Days.{ordinal_small}
use Rattle.smpe_invocation.proofs.date.day_of_year.Goals as goal

pub returns-clause-last : goal.returns-clause-last
returns-clause-last c = grind (arith, ints, ordinal_small c.args.date)
