use Rattle.std.proofs.Common.{rules, tests}
use Rattle.std.proofs.lemmas.Iterator.Consumers.{YieldsList-from_rest}
use Rattle.std.proofs.lemmas.Iterator.Search.{any_from_yields_List}
use Rattle.terms.specs.Lookups.{is_applied}
use Rattle.smpe_global.proofs.rejected.is_applied_somewhere.Goals as goal

pub returns : goal.returns
returns c =
    any_from_yields_List (λ zone. is_applied zone c.args.id) _ _ _ c.any.ensures.ran
    (YieldsList-from_rest _ c.values.ensures.rest) (λ x b q k. search (rules, tests))
