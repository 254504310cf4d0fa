use Rattle.std.proofs.Common.{rules, tests}
use Rattle.std.proofs.lemmas.Iterator.Consumers.{YieldsList-from_first}
use Rattle.std.proofs.lemmas.Iterator.Search.{all_from_yields_List}
use Rattle.judge.specs.Surviving.{is_clash}
use Rattle.judge.proofs.surviving.survives_with.Goals as goal

pub returns : goal.returns
returns c =
    all_from_yields_List is_clash _ _ _ c.all.ensures.ran
    (YieldsList-from_first (λ x. x) (λ s. s) _ c.iter.ensures) (λ x b q k. search (rules, tests))
