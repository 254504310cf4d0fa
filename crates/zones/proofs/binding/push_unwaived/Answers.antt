use Rattle.std.proofs.Common.{Bool, ◌++◌, ◌∙◌, ap, not, filter, map, rules, tests}
use Rattle.std.proofs.lemmas.Iterator.{YieldsList-from_map, YieldsList-from_slice}
use Rattle.std.proofs.lemmas.Iterator.Adapters.{items_from_extend}
use Rattle.std.proofs.lemmas.Iterator.Consumers.{YieldsList-at, YieldsList-from_filter}
use Rattle.std.proofs.lemmas.List.{map-id}
use Rattle.std.proofs.lemmas.Result.{on_ok_weaker}
use Rattle.terms.specs.Types.{Id}
use Rattle.terms.specs.Lookups.{is_in, waived_of}
use Rattle.zones.proofs.binding.push_unwaived.Goals as goal

pub returns : goal.returns
returns c =
    let stays : Id → Bool = λ z. not (is_in (waived_of c.args.zone.now c.args.by) z) in
    let left = filter stays c.args.ids.now in
    on_ok_weaker c.extend.result (λ gives. gives.0 ∙ ap (λ l. c.args.found.now.items ++ l) (map-id left))
    (items_from_extend {all = map (λ z. z) left} c.extend.result c.extend.ensures.ran
    (YieldsList-from_map _ (λ z. z) (YieldsList-at c.map.ensures.source (YieldsList-from_filter _ stays
    (YieldsList-from_slice c.args.ids.now cc) c.filter.ensures.closure (λ x b q k. search (rules, tests))))
    c.map.ensures.closure (λ x r q k. search rules)))
