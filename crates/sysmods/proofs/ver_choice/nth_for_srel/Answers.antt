use Rattle.std.proofs.Common.{rules, tests}
use Rattle.std.specs.Str.{bytes_eq}
use Rattle.std.proofs.lemmas.Iterator.{YieldsList-from_slice}
use Rattle.std.proofs.lemmas.Iterator.Consumers.{YieldsList-from_filter, YieldsList-at, nth_from_yields_List}
use Rattle.sysmods.proofs.ver_choice.nth_for_srel.Goals as goal

pub returns : goal.returns
returns c =
    nth_from_yields_List _ _ _ c.nth.ensures.ran
    (YieldsList-from_filter _ (λ v. bytes_eq v.srel c.args.srel)
    (YieldsList-at c.filter.ensures.source (YieldsList-from_slice _ c.iter.ensures.rest)) c.filter.ensures.closure
    (λ x b q k. search (rules, tests)))
