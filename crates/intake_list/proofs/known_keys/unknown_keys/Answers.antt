use Rattle.std.proofs.Common.{rules, tests}
use Rattle.std.proofs.lemmas.Iterator.{YieldsList-from_slice}
use Rattle.std.proofs.lemmas.Iterator.Consumers.{map_from_collect, YieldsList-from_filter, YieldsList-at}
use Rattle.intake_list.specs.Typed.{is_unknown_key}
use Rattle.intake_list.proofs.known_keys.unknown_keys.Goals as goal

pub returns : goal.returns
returns c =
    map_from_collect _ c.collect.ensures.ran
    (YieldsList-from_filter _ (λ key. is_unknown_key key)
    (YieldsList-at c.filter.ensures.source (YieldsList-from_slice c.args.entry.now.keys cc))
    c.filter.ensures.closure (λ x b q k. search (rules, tests)))
