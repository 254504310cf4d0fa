use Rattle.std.proofs.Common.{rules, tests}
use Rattle.std.proofs.lemmas.Iterator.Consumers.{YieldsList-from_first}
use Rattle.std.proofs.lemmas.Iterator.Search.{all_from_yields_List}
use Rattle.why_verdict.specs.Conflicts.{by_others}
use Rattle.why_verdict.proofs.statuses.all_depend_on_others.Goals as goal

pub returns : goal.returns
returns c =
    all_from_yields_List by_others _ _ _ c.all.ensures.ran
    (YieldsList-from_first (λ x. x) (λ s. s) _ c.iter.ensures) (λ x b q k. search (rules, tests))
