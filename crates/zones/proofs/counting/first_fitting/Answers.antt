use Rattle.std.proofs.Common.{rules, tests}
use Rattle.std.specs.Str.{bytes_eq}
use Rattle.std.proofs.lemmas.Iterator.{YieldsList-from_slice}
use Rattle.std.proofs.lemmas.Iterator.Consumers.{YieldsList-from_filter, YieldsList-at}
use Rattle.std.proofs.lemmas.Iterator.Search.{position_from_yields_List}
use Rattle.terms.specs.Lookups.{is_in}
use Rattle.terms.specs.Choice.{fits}
use Rattle.zones.proofs.counting.first_fitting.Goals as goal

pub returns : goal.returns
returns c =
    position_from_yields_List (fits c.args.zone.now (is_in c.args.candidates.now)) _ _ _ c.position.ensures.ran
    (YieldsList-from_filter _ (λ v. bytes_eq v.srel c.args.zone.now.srel)
    (YieldsList-at c.filter.ensures.source (YieldsList-from_slice _ c.iter.ensures.rest)) c.filter.ensures.closure
    (λ x b q k. search (rules, tests))) (λ x b q k. search (rules, tests))
