use Rattle.std.proofs.Common.{map, filter, rules, tests}
use Rattle.std.proofs.lemmas.Iterator.{YieldsList-from_map, YieldsList-from_slice}
use Rattle.std.proofs.lemmas.Iterator.Adapters.{items_from_extend}
use Rattle.std.proofs.lemmas.Iterator.Consumers.{YieldsList-at, YieldsList-from_filter}
use Rattle.std.proofs.lemmas.Result.{on_ok_weaker}
use Rattle.judge_system.specs.Said.{a_need}
use Rattle.zones.specs.Gone.{left_of}
use Rattle.judge_needs.specs.Needed.{is_open}
use Rattle.judge_needs.proofs.AllNeeds.{of_kind_holds}
use Rattle.judge_needs.proofs.needed.add_open_needs.Goals as goal

pub returns : goal.returns
returns c =
    let left = left_of c.args.left.now in
    let b = c.args.scope.now.bypass.now in
    let kind = c.args.kind in
    let asked = c.args.asked.now in
    let need = a_need c.args.of kind in
    let is_left = is_open left b kind in
    on_ok_weaker c.extend.result
    (λ gives. of_kind_holds left b kind c.args.of asked c.args.needs.now.items c.extend.new.self.items c.requires
    gives.0)
    (items_from_extend {all = map need (filter is_left asked)} c.extend.result c.extend.ensures.ran
    (YieldsList-from_map _ need (YieldsList-at c.map.ensures.source (YieldsList-from_filter _ is_left
    (YieldsList-from_slice asked cc) c.filter.ensures.closure (λ x b q k. search (rules, tests))))
    c.map.ensures.closure (λ x r q k. search rules)))
